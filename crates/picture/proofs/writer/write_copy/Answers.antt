-- Each test picks its case; what is refused gives the lent bytes back.
use Rattle.std.proofs.Common.{sym, ap, ◌∙◌}
use Rattle.std.specs.Prelude.{List, ℕ}
use Rattle.picture.specs.declared.types.Written.TheVariants as written
use Rattle.picture.specs.Writer.{wrote}
use Rattle.picture.proofs.Left.{put_back, left_short, left_format, left_size, left_line, left_done}
use Rattle.picture.proofs.Accepted.{line_some, sized}
use Rattle.picture.proofs.writer.write_copy.Goals as goal

pub returns-in_default : goal.returns-in_default
returns-in_default c = let a = c.args in left_short a.width a.height a.fmt a.siz a.pointer a.out.now c.in_default.ensures.cases

pub returns-then-format_bad : goal.returns-then-format_bad
returns-then-format_bad c =
    let a = c.args in
    let first = c.in-Some.ensures.cases in
    ap (λ (o : List ℕ). wrote written.Object o) (put_back first.same) ∙ left_format a.width a.height a.fmt a.siz a.pointer a.out.now first.enough (sym c.format_bad.ensures ∙ c.if-format_bad.true)

pub returns-then-size_bad : goal.returns-then-size_bad
returns-then-size_bad c =
    let a = c.args in
    let first = c.in-Some.ensures.cases in
    ap (λ (o : List ℕ). wrote written.Picture o) (put_back first.same)
    ∙ left_size a.width a.height a.fmt a.siz a.pointer a.out.now first.enough (sym c.format_bad.ensures ∙ c.if-format_bad.false) (sym c.size_bad.ensures ∙ c.if-size_bad.true)

pub returns-then-capacity-line : goal.returns-then-capacity-line
returns-then-capacity-line c =
    let a = c.args in
    let first = c.in-Some.ensures.cases in
    ap (λ (o : List ℕ). wrote written.Picture o) (put_back first.same)
    ∙ left_line a.width a.height a.fmt a.siz a.pointer a.out.now first.enough (sym c.format_bad.ensures ∙ c.if-format_bad.false) (sym c.size_bad.ensures ∙ c.if-size_bad.false)
    (rw (c.line_of-line.ensures, c.from.ensures, c.copy_capacity-capacity.ensures.is) at c.if-capacity-line.true)

pub nonzero_div-capacity : goal.nonzero_div-capacity
nonzero_div-capacity c =
    let a = c.args in
    let s = sized a.width a.height a.fmt a.siz (sym c.format_bad.ensures ∙ c.if-format_bad.false) (sym c.size_bad.ensures ∙ c.if-size_bad.false) in
    rw (c.line_of-line.ensures, c.from.ensures) (line_some a.siz a.width s.siz s.width)

pub returns : goal.returns
returns c =
    let a = c.args in
    let first = c.in-Some.ensures.cases in
    rw (c.object_bytes.ensures, c.line_of-line.ensures, c.from.ensures, c.copy_capacity-capacity.ensures.is)
    (left_done a.width a.height a.fmt a.siz a.pointer a.out.now first.enough (sym c.format_bad.ensures ∙ c.if-format_bad.false) (sym c.size_bad.ensures ∙ c.if-size_bad.false)
    (rw (c.line_of-line.ensures, c.from.ensures, c.copy_capacity-capacity.ensures.is) at c.if-capacity-line.false))
