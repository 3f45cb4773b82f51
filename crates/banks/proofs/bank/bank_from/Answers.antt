-- Eight tiles, each of the next seventeen words.
use Rattle.std.proofs.Common.{◌≡◌, ◌∙◌, ◌∷◌, ◌/◌, List, [], get_or, ℕ, ap}
use Rattle.std.specs.Simd.{first_chunks}
use Rattle.giving.specs.Host.{bank_from, tile_from}
use Rattle.banks.proofs.Banks.{tiles_mapped}
use Rattle.banks.proofs.bank.bank_from.Goals as goal

pub returns : goal.returns
unfolding bank_from
returns c =
    let ws = c.args.words.now in
    let w = rw c.unwrap-tiles.ensures at c.try_from.ensures.1 in
    let e : c.unwrap-tiles.result ≡ first_chunks 17 8 ws = w.same ∙ c.as_chunks.ensures.front ∙ ap (λ (n : ℕ). first_chunks 17 (n / 17) ws) c.told-words in
    let read : (k : ℕ) → tile_from (get_or c.unwrap-tiles.result k []) ≡ tile_from (get_or (first_chunks 17 8 ws) k []) = λ k. ap (λ (x : List (List ℕ)). tile_from (get_or x k [])) e in
    (λ j. record { tiles = (c.tile_from.ensures ∙ read 0) j ∷ (c.tile_from-2.ensures ∙ read 1) j ∷ (c.tile_from-3.ensures ∙ read 2) j ∷ (c.tile_from-4.ensures ∙ read 3) j ∷ (c.tile_from-5.ensures ∙ read 4) j ∷ (c.tile_from-6.ensures ∙ read 5) j ∷ (c.tile_from-7.ensures ∙ read 6) j ∷ (c.tile_from-8.ensures ∙ read 7) j ∷ [] })
    ∙ (λ j. record { tiles = tiles_mapped 8 ws j })
