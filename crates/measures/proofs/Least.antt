-- The smaller of two widths has the smaller of their numbers.
-- Assumes nothing.
use Rattle.std.specs.Prelude.{◌≡◌, refl, Bool, true, false, cond, int_lt}
use Rattle.std.proofs.Common.{ap, ◌∙◌}
use Rattle.std.specs.declared.cmp.Ordering.TheVariants.{Less, Equal, Greater}
use Rattle.std.specs.Ordering.{ord_min, is_lt}
use Rattle.signed.specs.Cast.{min_z}
use Rattle.signed.proofs.Least.{min_is}
use Rattle.measures.specs.declared.types.Quarters.{Quarters}
use Rattle.measures.specs.contracts.types.QuartersOrd.TheImpl.{cmp-value}
use Rattle.measures.specs.Measure.{in_quarters}

chosen : (t u : Bool) (a b : Quarters) → cond (is_lt (cond t Less (cond u Greater Equal))) b a ≡ in_quarters (cond t b.0 a.0)
chosen true u a b = refl
chosen false true a b = refl
chosen false false a b = refl

pub min_width : (a b : Quarters) → ord_min cmp-value.it a b ≡ in_quarters (min_z a.0 b.0)
min_width a b = chosen (int_lt b.0 a.0) (int_lt a.0 b.0) a b ∙ ap in_quarters (min_is a.0 b.0)
