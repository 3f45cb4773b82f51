-- A read of fewer than eight bytes leaves room for one byte more, and one byte more is one step of the read.
use Rattle.std.proofs.Common.{◌≡◌, ◌+◌, ◌-◌, ◌<◌, ◌∙◌, length, List, ℕ, arith, get_or}
use Rattle.std.proofs.lemmas.List.{get_or-drop, get_or-take, length-take}
use Rattle.std.proofs.Math.ListN.{take, drop}
use Rattle.object.specs.Reads.{read_none, read_more, room}
use Rattle.object.proofs.reader.big_endian.Goals as goal

-- a byte of the slice from a place
within : (bs : List ℕ) (at n i : ℕ) → i < length (take (at + n - at) (drop at bs)) → (i < n) × (get_or (take (at + n - at) (drop at bs)) i 0 ≡ get_or bs (at + i) 0)
within bs at n i h =
    let l : i < n = omega (arith, length-take (at + n - at) (drop at bs)) in
    (l, get_or-take (at + n - at) (drop at bs) i 0 (omega arith) ∙ get_or-drop at bs i 0)

pub loop-byte-init : goal.loop-byte-init
loop-byte-init c = read_none _ _

pub overflow_mul-number : goal.overflow_mul-number
overflow_mul-number c =
    let w = within c.args.s.now c.args.at c.args.n c.loop-byte.byte-index c.loop-byte-test.true in
    omega (arith, room c.loop-byte.byte-index c.loop-byte.number (omega (arith, c.requires.few)) c.loop-byte.invariant.below)

pub overflow_add-number : goal.overflow_add-number
overflow_add-number c =
    let w = within c.args.s.now c.args.at c.args.n c.loop-byte.byte-index c.loop-byte-test.true in
    let b = (c.type_inv.s (c.args.at + c.loop-byte.byte-index)).fits in
    omega (arith, room c.loop-byte.byte-index c.loop-byte.number (omega (arith, c.requires.few)) c.loop-byte.invariant.below, c.from.ensures ∙ w.1)

pub loop-byte-preserved : goal.loop-byte-preserved
loop-byte-preserved c =
    let w = within c.args.s.now c.args.at c.args.n c.loop-byte.byte-index c.loop-byte-test.true in
    let b = (c.type_inv.s (c.args.at + c.loop-byte.byte-index)).fits in
    read_more _ _ _ _ _ c.loop-byte.invariant (c.from.ensures ∙ w.1) (omega (arith, c.from.ensures ∙ w.1))
