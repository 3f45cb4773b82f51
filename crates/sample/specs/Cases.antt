-- The engine computed: refusals in their order, cells inside and outside, and cell by cell the plan of a record beside the engine.
-- Assumes nothing.
use Rattle.std.specs.Prelude.{Bool, true, false, not, ◌&&◌, Option, Some, None, List, [], ◌∷◌, ℕ, zero, suc, eqb, T}
use Rattle.checks.specs.Check.{verdict_number}
use Rattle.plan.specs.Request.{Request}
use Rattle.plan.specs.declared.types.Copy.{Copy}
use Rattle.plan.specs.declared.types.Entry.{Entry}
use Rattle.plan.specs.Check.{given, ends, request_of_record}
use Rattle.plan.specs.Whole.{plan_of}
use Rattle.strips.specs.Frame.{axis_of}
use Rattle.cells.specs.Course.{frame_of}
use Rattle.cells.specs.Shown.{Look, looks_at}
use Rattle.object.specs.declared.types.Verdict.TheVariants as verdict
use Rattle.sample.specs.declared.types.Sample.{Sample}
use Rattle.sample.specs.declared.types.Sample.TheVariants.{Texel, Outside, Refused}
use Rattle.sample.specs.Engine.{frame_columns, frame_lines, plain_column, flipped_column, plain_row, sample_in, sample_of}
use Rattle.sample.specs.Shows.{looks_in}

-- ---- the engine alone

-- a record of 61 bytes, how many of the object's bytes the call gets, a cell, and the answer
pub record Case : Type 0 where
  pub bytes : ℕ
  pub count : ℕ
  pub column : ℕ
  pub line : ℕ
  pub answer : Sample

abbrev case : (bytes count column line : ℕ) → Sample → Case
case bytes count column line answer = record { bytes = bytes; count = count; column = column; line = line; answer = answer }

pub cases : List Case
cases =
    -- 2 before 3, 4 and 5, and a refusal before `outside`
    case 0x0000000000000040000000080000000800000000fff400020000000200000008000800000001000000000000040000f0000000000a0000000000001000 39 1023 1023 (Refused verdict.Short)
    -- 3 before 4 and 5, 4 before 5
    ∷ case 0x0000000000000040000000080000000800000000fff400020000000200000008000800000001000000000000040000f0000000000a0000000000001000 40 1023 1023 (Refused verdict.Scissor)
    ∷ case 0x0000000000000040000000080000000800000000fff400020000000200000008000800000001000000000000014000f0000000000a0000000000001000 40 1023 1023 (Refused verdict.Object)
    ∷ case 0x0000004000000040000000080000000800000000fff400020000000200000008000800000001000000000000014000f0000000000a0000000000001000 40 1023 1023 (Refused verdict.Copy)
    ∷ case 0x0000004000000040000000080000000800000000fff400020000000200000008000800000001000000000000014000f0000000000a0000000000001000 40 0 0 (Refused verdict.Copy)
    -- any cell of an empty frame is outside
    ∷ case 0x0000004000000040000000080000000800000000fff400020000000000000008000800000001000000000000000000f0000000000a0000000000001000 40 0 0 Outside
    ∷ case 0x0000004000000040000000080000000800000000fff40002000000000000000800080000000100000000000001400000000000000a0000000000001000 40 0 0 Outside
    -- case L: its first cell, its last, and those beyond
    ∷ case 0x0000004000000040000000080000000800000000fff400020000000000000008000800000001000000000000014000f0000000000a0000000000001000 40 0 0 (Texel 0 0)
    ∷ case 0x0000004000000040000000080000000800000000fff400020000000000000008000800000001000000000000014000f0000000000a0000000000001000 40 15 1 (Texel 15 1)
    ∷ case 0x0000004000000040000000080000000800000000fff400020000000000000008000800000001000000000000014000f0000000000a0000000000001000 40 16 0 Outside
    ∷ case 0x0000004000000040000000080000000800000000fff400020000000000000008000800000001000000000000014000f0000000000a0000000000001000 40 0 2 Outside
    -- four cells skipped on the left and one line at the top, and a wrap
    ∷ case 0x02620054fff30082004600160003002b00000000fff400010000000000000008000800000001000000010002014000f0000000000a0000000000001000 40 0 0 (Texel 2 3)
    ∷ case 0x02620054fff30082004600160003002b00000000fff400010000000000000008000800000001000000010002014000f0000000000a0000000000001000 40 27 8 (Texel 8 1)
    ∷ case 0x02620054fff30082004600160003002b00000000fff400010000000000000008000800000001000000010002014000f0000000000a0000000000001000 40 0 2 (Texel 2 0)
    ∷ case 0x02620054fff30082004600160003002b00000000fff400010000000000000008000800000001000000010002014000f0000000000a0000000000001000 40 28 0 Outside
    ∷ case 0x02620054fff30082004600160003002b00000000fff400010000000000000008000800000001000000010002014000f0000000000a0000000000001000 40 0 9 Outside
    -- flipped, two cells skipped, and 20 after 0
    ∷ case 0x014d0055fffa0083004600140002002900000000fff40000000000010000000c000c00000001000000010000001e00f0000000000a0000000000001000 40 0 0 (Texel 18 2)
    ∷ case 0x014d0055fffa0083004600140002002900000000fff40000000000010000000c000c00000001000000010000001e00f0000000000a0000000000001000 40 18 0 (Texel 0 2)
    ∷ case 0x014d0055fffa0083004600140002002900000000fff40000000000010000000c000c00000001000000010000001e00f0000000000a0000000000001000 40 19 0 (Texel 20 2)
    ∷ []

abbrev asked : (bytes count : ℕ) → Request
asked bytes count = request_of_record (given bytes count 0 (ends 0 0 0 0) [] [])

unfoldable pub same : Sample → Sample → Bool
same (Texel a b) (Texel c d) = eqb a c && eqb b d
same (Texel a b) Outside = false
same (Texel a b) (Refused v) = false
same Outside (Texel c d) = false
same Outside Outside = true
same Outside (Refused v) = false
same (Refused v) (Texel c d) = false
same (Refused v) Outside = false
same (Refused v) (Refused w) = eqb (verdict_number v) (verdict_number w)

unfoldable pub answered : List Case → Bool
unfolding sample_of sample_in frame_columns frame_lines plain_column flipped_column plain_row axis_of request_of_record
answered [] = true
answered (x ∷ xs) = (let q = asked x.bytes x.count in same (sample_of 4 q.bytes q.scissor x.column x.line) x.answer) && answered xs

pub all_answered : T (answered cases)
unfolding answered same cases
all_answered = tt

-- ---- a plan beside the engine

-- one look, and the engine's texel
unfoldable pub alike : List (Option Look) → Sample → Bool
alike (Some l ∷ []) s = same (Texel l.column l.row) s
alike (Some l ∷ m ∷ ms) s = false
alike (None ∷ ms) s = false
alike [] s = false

unfoldable pub every : ℕ → (ℕ → Bool) → Bool
every zero f = true
every (suc n) f = f n && every n f

abbrev alike_at : Request → Copy → List Entry → (i j : ℕ) → Bool
alike_at q c es i j = alike (looks_in c i j es) (sample_of 4 q.bytes q.scissor i j)

-- every cell of a record's frame
unfoldable pub agrees : ℕ → Bool
unfolding request_of_record looks_at sample_of sample_in frame_columns frame_lines plain_column flipped_column plain_row axis_of alike every same
agrees r =
    let q = asked r 40 in
    let c = frame_of 4 q in
    let es = (plan_of q).entries in
    every c.width (λ i. every c.height (λ j. alike_at q c es i j))

-- one cell of it
unfoldable pub agrees_in : ℕ → (i j : ℕ) → Bool
unfolding request_of_record looks_at sample_of sample_in frame_columns frame_lines plain_column flipped_column plain_row axis_of alike same
agrees_in r i j = let q = asked r 40 in alike_at q (frame_of 4 q) (plan_of q).entries i j

-- case L
pub small : T (agrees 0x0000004000000040000000080000000800000000fff400020000000000000008000800000001000000000000014000f0000000000a0000000000001000)
unfolding agrees
small = tt

-- 28 by 9 cells over an image of 21 by 5 texels, and 29 by 10 over another of so many, flipped
pub wrapped : T (agrees 0x02620054fff30082004600160003002b00000000fff400010000000000000008000800000001000000010002014000f0000000000a0000000000001000)
unfolding agrees
wrapped = tt

pub flipped : T (agrees 0x014d0055fffa0083004600140002002900000000fff40000000000010000000c000c00000001000000010000001e00f0000000000a0000000000001000)
unfolding agrees
flipped = tt

-- the last cell of case A
pub last : T (agrees_in 0x0000050000000500000003c0000003c000000000fff400020000000000000018001800000001000000000000014000f0000000000a0000000000001000 319 239)
unfolding agrees_in
last = tt

-- a load of 1,025 columns: unflipped its first cell and its last agree; flipped the rectangle's first texel does not fit 16 bits, and its first cell and its last differ
pub wide : T (agrees_in 0x0040104000000ffc000000040000000400000000fff40000000000000000000400040000000100000000000003ff00f0000000000a0000000000001000 0 0 && agrees_in 0x0040104000000ffc000000040000000400000000fff40000000000000000000400040000000100000000000003ff00f0000000000a0000000000001000 1022 0)
unfolding agrees_in
wide = tt

pub wide_flipped : T (not (agrees_in 0x0040104000000ffc000000040000000400000000fff40000000000010000000400040000000100000000000003ff00f0000000000a0000000000001000 0 0) && not (agrees_in 0x0040104000000ffc000000040000000400000000fff40000000000010000000400040000000100000000000003ff00f0000000000a0000000000001000 1022 0))
unfolding agrees_in
wide_flipped = tt
