-- What the call leaves, by its two lengths; a cut scissor is refused as the host's is, or is the host's.
-- Assumes nothing.
use Rattle.std.specs.Prelude.{◌≡◌, refl, Bool, true, false, List, ℕ, length, get_or}
use Rattle.std.proofs.Common.{ap, ◌∙◌, eq-eqb, ne_eqb}
use Rattle.object.specs.declared.types.Scissor.{Scissor}
use Rattle.checks.specs.Check.{scissor_bad, short, checked_of}
use Rattle.request.specs.Host.{edges_in, edges_kept}
use Rattle.request.proofs.Cut.{edges_alike, edges_exact}
use Rattle.sample.specs.declared.types.Sample.{Sample}
use Rattle.sample.specs.Engine.{sample_of}
use Rattle.sample.specs.Host.{sample_words, cell_left, host_sample}

-- ---- the scissor

module _ (p : ℕ) (bs : List ℕ) (i j : ℕ) where
  -- two bad scissors have one answer
  both_bad : (s s' : Scissor) (t : Bool) → short p 10 bs ≡ t → scissor_bad s ≡ true → scissor_bad s' ≡ true → sample_of p bs s i j ≡ sample_of p bs s' i j
  unfolding sample_of checked_of
  both_bad s s' true e h k = rw e refl
  both_bad s s' false e h k = rw (e, h, k) refl

  edges_sampled : (ulx uly lrx lry : ℕ) → sample_of p bs (edges_kept ulx uly lrx lry) i j ≡ sample_of p bs (edges_in ulx uly lrx lry) i j
  edges_sampled ulx uly lrx lry = by (scissor_bad (edges_in ulx uly lrx lry)) refl
    where
      by : (t : Bool) → scissor_bad (edges_in ulx uly lrx lry) ≡ t → sample_of p bs (edges_kept ulx uly lrx lry) i j ≡ sample_of p bs (edges_in ulx uly lrx lry) i j
      by true e = both_bad (edges_kept ulx uly lrx lry) (edges_in ulx uly lrx lry) (short p 10 bs) refl (edges_alike ulx uly lrx lry ∙ e) e
      by false e = ap (λ (s : Scissor). sample_of p bs s i j) (edges_exact ulx uly lrx lry e)

-- ---- the call

module _ (object scissor : List ℕ) (column line : ℕ) (out : List ℕ) where
  pub odd_scissor : (length scissor ≡ 4 → ⊥) → cell_left 1 out ≡ host_sample object scissor column line out
  unfolding host_sample
  odd_scissor n = rw (ne_eqb (length scissor) 4 n)

  pub odd_out : length scissor ≡ 4 → (length out ≡ 3 → ⊥) → cell_left 1 out ≡ host_sample object scissor column line out
  unfolding host_sample
  odd_out q n = rw (eq-eqb (length scissor) 4 q, ne_eqb (length out) 3 n)

  pub sample_left : length scissor ≡ 4 → length out ≡ 3 → {s : Sample}
      → s ≡ sample_of 4 object (edges_kept (get_or scissor 0 0) (get_or scissor 1 0) (get_or scissor 2 0) (get_or scissor 3 0)) column line → cell_left 0 (sample_words s) ≡ host_sample object scissor column line out
  unfolding host_sample
  sample_left q n e =
      rw (eq-eqb (length scissor) 4 q, eq-eqb (length out) 3 n)
      (ap (λ (s : Sample). cell_left 0 (sample_words s)) (e ∙ edges_sampled 4 object column line (get_or scissor 0 0) (get_or scissor 1 0) (get_or scissor 2 0) (get_or scissor 3 0)))
