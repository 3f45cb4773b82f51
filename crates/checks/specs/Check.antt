-- The verdicts and their numbers, and the checks of a request for verdicts 1 to 5, in the order of D 4.6. D is docs/SPECIFICATION.md, sections 2 and 4.
-- Assumes nothing.
use Rattle.std.specs.Prelude.{Bool, true, false, Result, Ok, Err, cond, not, ◌||◌, List, [], ◌∷◌, ℕ, ◌+◌, ◌*◌, ltb, eqb, ℤ, pos, length}
use Rattle.std.specs.Int.Signed.{lt_z}
use Rattle.object.specs.declared.types.ObjBg.{ObjBg}
use Rattle.object.specs.declared.types.Scissor.{Scissor}
use Rattle.object.specs.declared.types.Verdict.{Verdict}
use Rattle.object.specs.declared.types.Verdict.TheVariants as verdict
use Rattle.object.specs.declared.types.Background.{Background}
use Rattle.object.specs.declared.types.Background.TheVariants as background
use Rattle.measures.specs.Measure.{quarters}
use Rattle.object.specs.Layout.{size_of, decode}

-- D 4.1: the number of a verdict
abbrev pub verdict_number : Verdict → ℕ
verdict_number verdict.Finished = 0
verdict_number verdict.Opcode = 1
verdict_number verdict.Short = 2
verdict_number verdict.Scissor = 3
verdict_number verdict.Object = 4
verdict_number verdict.Copy = 5
verdict_number verdict.Slices = 6
verdict_number verdict.TooBig = 7
verdict_number verdict.Piece = 8
verdict_number verdict.Address = 9
verdict_number verdict.Full = 10

-- whether any of a verdict's conditions holds
abbrev pub any : List Bool → Bool
any [] = false
any (t ∷ ts) = t || any ts

-- D verdict 1 "neither 9 nor 10"
abbrev pub opcode_bad : ℕ → Bool
opcode_bad opcode = not (eqb opcode 9 || eqb opcode 10)

-- D "Opcode 9 is scaled (one-cycle), 10 is copy"
abbrev pub copies : ℕ → Bool
copies opcode = eqb opcode 10

-- the kind that is asked for, a copy or not, or verdict 1
abbrev pub kind_of : ℕ → Result Bool Verdict
kind_of opcode = cond (opcode_bad opcode) (Err verdict.Opcode) (Ok (copies opcode))

-- D verdict 2 "under 40 bytes for copy, 36 for scaled"
abbrev pub short : ℕ → ℕ → List ℕ → Bool
short p opcode bs = ltb (length bs) (size_of p (copies opcode))

-- D verdict 3 "an edge outside 0..1023"
abbrev pub edge_bad : ℤ → Bool
edge_bad edge = lt_z edge (pos 0) || lt_z (pos 1023) edge

unfoldable pub scissor_bad : Scissor → Bool
scissor_bad s = any (edge_bad s.ulx ∷ edge_bad s.uly ∷ edge_bad s.lrx ∷ edge_bad s.lry ∷ [])

-- D 4.4, R 87–93 of `read_bg`: the conditions in D's order
unfoldable pub object_faults : ObjBg → List Bool
object_faults bg =
    eqb (quarters bg.image_w) 0
    ∷ eqb (quarters bg.image_h) 0
    ∷ eqb (quarters bg.frame_w) 0
    ∷ eqb (quarters bg.frame_h) 0
    ∷ ltb 3 bg.image_siz
    ∷ ltb 4 bg.image_fmt
    ∷ not (eqb bg.image_load 0x0033 || eqb bg.image_load 0xfff4)
    ∷ []

-- D 4.5, R 420–426: the conditions in D's order
unfoldable pub copy_faults : ObjBg → List Bool
copy_faults bg =
    not (eqb bg.image_load 0xfff4)
    ∷ ltb bg.tmem_h 4
    ∷ ltb (quarters bg.image_w) 4
    ∷ ltb (quarters bg.image_h) 4
    ∷ eqb bg.tmem_size_w 0
    ∷ not (eqb (bg.tmem_size * 65536 + bg.tmem_load_sh) (bg.tmem_h * bg.tmem_size_w))
    ∷ ltb 1 bg.image_flip
    ∷ []

-- what the checks give: a background, or the first verdict that applies
abbrev pub Checked : Type 0
Checked = Result Background Verdict

-- a check: the verdict where the test holds, else what comes after
abbrev pub refused_by : Bool → Verdict → Checked → Checked
refused_by true v rest = Err v
refused_by false v rest = rest

-- D "1 to 5 are tried in this order", for pointers of p bytes
unfoldable pub object_of : Bool → ObjBg → Checked
object_of true bg = refused_by (any (object_faults bg)) verdict.Object (refused_by (any (copy_faults bg)) verdict.Copy (Ok (background.Copy bg)))
object_of false bg = refused_by (any (object_faults bg)) verdict.Object (Ok (background.Scaled bg))

unfoldable pub checked_of : ℕ → List ℕ → ℕ → Scissor → Checked
checked_of p bs opcode s =
    refused_by (opcode_bad opcode) verdict.Opcode
    (refused_by (short p opcode bs) verdict.Short (refused_by (scissor_bad s) verdict.Scissor (object_of (copies opcode) (decode p (copies opcode) bs))))
