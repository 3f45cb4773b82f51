-- The walk after a pass, by its numbers.
use Rattle.std.proofs.Common.{arith, lit<, lit≤, ◌<◌}
use Rattle.signed.specs.Diff.{zarith}
use Rattle.signed.specs.Floor.{modulo, modulo_lt}
use Rattle.signed.specs.Word.{rdn}
use Rattle.plan.specs.declared.types.Walk.{Walk}
use Rattle.loads.specs.Comes.{wider, read_in}
use Rattle.loads.proofs.Read.{value}
use Rattle.walks.specs.Going.{remain_line, lines_low}
use Rattle.walks.proofs.Read.{count_is, due_is}
use Rattle.walks.proofs.walk.drawn.Goals as goal

low_lt : (w : Walk) → modulo w.count 1024 < 1024
low_lt w = modulo_lt w.count {m = 1024} (lit< tt)

pub less-left-requires : goal.less-left-requires
less-left-requires c =
    let f = remain_line c.args.p c.requires.pass in
    (rw (read_in 32 _ (lit≤ tt) f) (wider 32 61 _ (lit≤ tt) f), omega (arith, c.lines_due-draw.ensures.1))

pub overflow_add-w : goal.overflow_add-w
overflow_add-w c = record { fits = omega (arith, c.requires.pass.walk.frame_y, lines_low c.args.p c.requires.pass) }

pub overflow_cast-count : goal.overflow_cast-count
overflow_cast-count c =
    let low = rw (count_is c.args.p.walk c.requires.pass.walk) at c.signed_low10-count.ensures in
    record { sfits = omega (arith, low, low_lt c.args.p.walk) }

pub next_walk-requires-clause-within : goal.next_walk-requires-clause-within
next_walk-requires-clause-within c =
    let low = rw (count_is c.args.p.walk c.requires.pass.walk) at c.signed_low10-count.ensures in
    let h = low_lt c.args.p.walk in
    rw (rdn c.signed_low10-count.result (omega (arith, low, h))) (record { low = omega zarith; high = omega zarith })

pub returns : goal.returns
returns c =
    let p = c.args.p in
    let due = due_is p.walk c.requires.pass.walk c.lines_due-draw.ensures.0 in
    let left = value c.less-left.type_inv (rw (read_in 32 _ (lit≤ tt) (remain_line p c.requires.pass), due) at c.less-left.ensures) in
    let low = rw (count_is p.walk c.requires.pass.walk) at c.signed_low10-count.ensures in
    let h = low_lt p.walk in
    rw (rdn c.signed_low10-count.result (omega (arith, low, h)), left, low) at c.next_walk.ensures
