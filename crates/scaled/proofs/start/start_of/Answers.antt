-- Each call's result is the definition's number: `x` and `y` are the positions before they wrap, and the law of the definition's range carries over.
use Rattle.std.proofs.Common.{◌≡◌, sym, subst, arith, cond, ℕ, ◌+◌, ◌*◌, ◌/◌, ◌<◌, ◌^◌, pos}
use Rattle.signed.specs.Diff.{zarith}
use Rattle.signed.specs.Word.{rdn}
use Rattle.object.specs.declared.types.ObjBg.{ObjBg}
use Rattle.measures.specs.Measure.{quarters, thirty_seconds, of_rows, in_image, sampled_by, in_thirty_seconds}
use Rattle.measures.specs.declared.types.ThirtySeconds.{ThirtySeconds}
use Rattle.plan.specs.declared.types.Clip.{Clip}
use Rattle.plan.specs.Scaled.{start_of}
use Rattle.scaled.specs.Range.{StartIn}
use Rattle.scaled.specs.Strip.{origin_of}
use Rattle.scaled.specs.StartLaw.{h_least, carry_le, y_le, wrapped_le, start_in}
use Rattle.scaled.proofs.start.start_of.Goals as goal
use Rattle.scaled.proofs.start.start_of.Goals.{After-of_rows-down, After-add-y, After-of_thirty_seconds-back, then-c, else-c}

abbrev w : ObjBg → ℕ
w bg = in_image (quarters bg.image_w)

abbrev h : ObjBg → ℕ
h bg = in_image (quarters bg.image_h)

abbrev x : ObjBg → Clip → ℕ
x bg c = thirty_seconds bg.image_x + sampled_by (quarters (cond c.flip c.right c.left)) bg.scale_w.0

abbrev y : ObjBg → Clip → ℕ
y bg c = thirty_seconds bg.image_y + sampled_by (quarters c.top) bg.scale_h.0 + of_rows (x bg c / w bg)

abbrev down : ObjBg → Clip → ThirtySeconds
down bg c = in_thirty_seconds (pos (of_rows (x bg c / w bg)))

cut_is : (c : After-of_rows-down) → c.if-c.cut ≡ cond c.args.c.flip c.args.c.right c.args.c.left
cut_is c = elim c.if-c.branch [ then-c b ↦ rw (b.if-c.true, b.cut-is) | else-c b ↦ rw (b.if-c.false, b.cut-is) ]

x_is : (c : After-of_rows-down) → c.position_after-x.result ≡ in_thirty_seconds (pos (x c.args.bg c.args.c))
x_is c = rw (cut_is c) at c.position_after-x.ensures.value

carry_is : (c : After-of_rows-down) → c.wraps-carry.result ≡ x c.args.bg c.args.c / w c.args.bg
carry_is c = rw (x_is c, c.in_image-source_w.ensures) at c.wraps-carry.ensures

down_is : (c : After-of_rows-down) → c.of_rows-down.result ≡ down c.args.bg c.args.c
down_is c =
    let l = carry_le c.args.bg c.args.c c.requires.usable c.requires.filled in
    let k : c.wraps-carry.result < 2 ^ 63 = rw (carry_is c) (omega arith) in
    rw (rdn c.wraps-carry.result k, carry_is c) at c.of_rows-down.ensures

y_is : (c : After-add-y) → c.of_rows-down.result ≡ down c.args.bg c.args.c → c.add-y.result ≡ in_thirty_seconds (pos (y c.args.bg c.args.c))
y_is c d = rw (c.position_after.ensures.value, d) at c.add-y.ensures

wrap_is : (c : After-of_thirty_seconds-back) → c.add-y.result ≡ in_thirty_seconds (pos (y c.args.bg c.args.c)) → c.wraps-wrap.result ≡ y c.args.bg c.args.c / h c.args.bg
wrap_is c e = rw (e, c.in_image-source_h.ensures) at c.wraps-wrap.ensures

back_is : (c : After-of_thirty_seconds-back) → c.add-y.result ≡ in_thirty_seconds (pos (y c.args.bg c.args.c)) → c.of_thirty_seconds-back.result ≡ in_thirty_seconds (pos (y c.args.bg c.args.c / h c.args.bg * h c.args.bg))
back_is c e = rw (wrap_is c e, c.thirty_seconds.ensures, c.in_image-source_h.ensures) at c.of_thirty_seconds-back.ensures

pub add-y-requires : goal.add-y-requires
add-y-requires c =
    let l = carry_le c.args.bg c.args.c c.requires.usable c.requires.filled in
    let m = rw c.position_after.ensures.value at c.position_after.ensures.result_bound in
    rw (c.position_after.ensures.value, down_is (goal.at.add-y-requires c).After-of_rows-down)
    (record { low = omega zarith; high = omega zarith }, record { low = omega zarith; high = omega zarith })

pub rest-requires-2 : goal.rest-requires-2
rest-requires-2 c =
    let g = goal.at.rest-requires-2 c in
    rw (y_is g.After-add-y (down_is g.After-of_rows-down), c.in_image-source_h.ensures)
    (omega (arith, y_le c.args.bg c.args.c c.requires.usable c.requires.filled), omega (arith, h_least c.args.bg c.args.c c.requires.usable c.requires.filled))

pub origin_of-requires : goal.origin_of-requires
origin_of-requires c =
    let l = carry_le c.args.bg c.args.c c.requires.usable c.requires.filled in
    let m = wrapped_le c.args.bg c.args.c c.requires.usable c.requires.filled in
    let g = goal.at.origin_of-requires c in
    let d = down_is g.After-of_rows-down in
    rw (d, back_is g.After-of_thirty_seconds-back (y_is g.After-add-y d))
    (c.requires.usable.range.image_y_orig, (record { low = omega zarith; high = omega zarith }, record { low = omega zarith; high = omega zarith }))

pub returns : goal.returns
unfolding start_of origin_of
returns c =
    let g = goal.at.returns c in
    let d = down_is g.After-of_rows-down in
    let e = y_is g.After-add-y d in
    let k = carry_is g.After-of_rows-down in
    let n = wrap_is g.After-of_thirty_seconds-back e in
    let ix = rw (x_is g.After-of_rows-down, c.in_image-source_w.ensures) at c.rest.ensures in
    let iy = rw (e, c.in_image-source_h.ensures) at c.rest-2.ensures in
    let o = rw (d, back_is g.After-of_thirty_seconds-back e) at c.origin_of.ensures in
    let i : record { image_x = c.rest.result; image_y = c.rest-2.result; origin = c.origin_of.result; carry = c.wraps-carry.result; wrap = c.wraps-wrap.result } ≡ start_of c.args.bg c.args.c = λ j. record { image_x = ix j; image_y = iy j; origin = o j; carry = k j; wrap = n j } in
    record { is = i; inside = subst (StartIn c.args.bg) (sym i) (start_in c.args.bg c.args.c c.requires.usable c.requires.filled) }
