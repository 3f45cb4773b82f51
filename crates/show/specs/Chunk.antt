-- The text of a plan in pieces: what one call writes into the bytes that it is lent, and what it leaves to come.
-- Assumes nothing.
use Rattle.std.specs.Prelude.{◌≡◌, Bool, true, false, cond, List, [], ◌∷◌, ◌++◌, ℕ, ◌-◌, ltb, length, drop}
use Rattle.std.specs.Option.{is_some}
use Rattle.plan.specs.declared.types.Entry.{Entry}
use Rattle.plan.specs.declared.types.End.{End}
use Rattle.plan.specs.Steps.{Coming, next_of}
use Rattle.planner.specs.Coming.{coming}
use Rattle.show.specs.declared.text.Chunk as code
use Rattle.lines.specs.Text.{entry_text, end_text}

-- the bytes written, what is left to come, and whether the end's line is written
pub record Chunk : Type 0 where
  pub text : List ℕ
  pub rest : Coming
  pub done : Bool

-- nothing is written yet
abbrev pub nothing : Coming → Chunk
nothing k = record { text = []; rest = k; done = false }

-- a text, and what follows it
abbrev pub and_then : List ℕ → Chunk → Chunk
and_then text c = record { text = text ++ c.text; rest = c.rest; done = c.done }

-- the lines of the next answers, as long as there is room for any line, which has 128 bytes at the most; after the end's there is nothing more
unfoldable pub chunk_of : (room : ℕ) → List Entry → List Entry → End → Chunk
chunk_of room [] left e = cond (ltb room 128) (nothing (record { entries = []; left = left; end = e })) (record { text = end_text e; rest = next_of [] left e; done = true })
chunk_of room (x ∷ es) left e = cond (ltb room 128) (nothing (record { entries = x ∷ es; left = left; end = e })) (and_then (entry_text x) (chunk_of (room - length (entry_text x)) es left e))

abbrev pub chunk : (room : ℕ) → Coming → Chunk
chunk room k = chunk_of room k.entries k.left k.end

-- what one call promises of a planner with k to come: its text, with all bytes beyond it as they were, and the planner with the rest to come
pub record ChunkIs (k : Coming) (out out' : List ℕ) (r : code.Chunk) : Type 0 where
  pub count : r.count ≡ length (chunk (length out) k).text
  pub done : is_some r.end ≡ (chunk (length out) k).done
  pub bytes : out' ≡ (chunk (length out) k).text ++ drop (length (chunk (length out) k).text) out
  pub rest : coming r.planner ≡ (chunk (length out) k).rest
