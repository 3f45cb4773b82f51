-- A copy course as words, and the test of such words that is what a step asks of its place.
-- Assumes nothing.
use Rattle.std.specs.Prelude.{Bool, cond, ◌&&◌, List, [], ◌∷◌, ℕ, ◌+◌, ◌/◌, ◌^◌, leb, ltb, eqb, get_or}
use Rattle.measures.specs.Measure.{quarters, in_quarters}
use Rattle.words.specs.declared.count.Counts.{Counts}
use Rattle.plan.specs.declared.types.Copy.{Copy}
use Rattle.plan.specs.declared.types.Strip.{Strip}
use Rattle.copy.specs.declared.types.Due.TheVariants as due
use Rattle.copy.specs.declared.types.Stage.{Stage}
use Rattle.copy.specs.declared.types.Stage.TheVariants as stage
use Rattle.copy.specs.declared.types.Place.{Place}
use Rattle.stored_fields.specs.Test.{all_of, within}
use Rattle.stored_fields.specs.Signed.{flag_word, signed_at}

-- ---- the words: the stage, the counts, and the place's numbers in their order

abbrev pub stage_word : Stage → ℕ
stage_word (stage.Strip due.Image) = 1
stage_word (stage.Strip due.Rect) = 2
stage_word stage.Tile7 = 3
stage_word stage.Tile0 = 4
stage_word stage.Size = 5
stage_word stage.Load = 6
stage_word stage.Done = 7

unfoldable pub copy_words : Stage → Place → Counts → List ℕ
copy_words s p n =
    stage_word s ∷ n.entries ∷ n.rectangles ∷ n.words ∷ n.line
    ∷ p.copy.fmt ∷ p.copy.siz ∷ p.copy.palette ∷ flag_word p.copy.flip ∷ p.copy.address
    ∷ p.copy.rows ∷ p.copy.image_width ∷ p.copy.image_height ∷ p.copy.frame_cells
    ∷ quarters p.copy.left ∷ quarters p.copy.top ∷ p.copy.width ∷ p.copy.height
    ∷ p.copy.source_x ∷ p.copy.source_y ∷ p.copy.x_skip ∷ p.copy.capacity ∷ p.copy.texels_per_word
    ∷ p.x ∷ p.y ∷ p.sy ∷ p.strip_height
    ∷ p.strip.strip_width ∷ p.strip.aligned_left ∷ p.strip.offset ∷ p.strip.load_width ∷ p.strip.line
    ∷ 0 ∷ 0 ∷ 0 ∷ 0 ∷ 0 ∷ 0 ∷ 0 ∷ []

-- ---- out of the words; the start, stage 1, has no place of its own

abbrev pub stage_from : ℕ → Stage
stage_from k = cond (eqb k 2) (stage.Strip due.Rect) (cond (eqb k 3) stage.Tile7 (cond (eqb k 4) stage.Tile0 (cond (eqb k 5) stage.Size (cond (eqb k 6) stage.Load stage.Done))))

unfoldable pub copy_from : List ℕ → Copy
copy_from ws =
    record {
      fmt = get_or ws 5 0;
      siz = get_or ws 6 0;
      palette = get_or ws 7 0;
      flip = eqb (get_or ws 8 0) 1;
      address = get_or ws 9 0;
      rows = get_or ws 10 0;
      image_width = get_or ws 11 0;
      image_height = get_or ws 12 0;
      frame_cells = get_or ws 13 0;
      left = in_quarters (signed_at ws 14);
      top = in_quarters (signed_at ws 15);
      width = get_or ws 16 0;
      height = get_or ws 17 0;
      source_x = get_or ws 18 0;
      source_y = get_or ws 19 0;
      x_skip = get_or ws 20 0;
      capacity = get_or ws 21 0;
      texels_per_word = get_or ws 22 0;
    }

unfoldable pub strip_from : List ℕ → Strip
strip_from ws = record { strip_width = get_or ws 27 0; aligned_left = get_or ws 28 0; offset = get_or ws 29 0; load_width = get_or ws 30 0; line = get_or ws 31 0 }

unfoldable pub place_from : List ℕ → Place
place_from ws = record { copy = copy_from ws; x = get_or ws 23 0; y = get_or ws 24 0; sy = get_or ws 25 0; strip_height = get_or ws 26 0; strip = strip_from ws }

-- ---- the test

abbrev pub copy_tests : List ℕ → List Bool
copy_tests ws =
    eqb (get_or ws 22 0) (16 / 2 ^ get_or ws 6 0) ∷ leb (get_or ws 5 0) 255 ∷ leb (get_or ws 7 0) 255 ∷ within 1 16383 (get_or ws 10 0)
    ∷ within 1 16383 (get_or ws 11 0) ∷ within 1 16383 (get_or ws 12 0) ∷ leb (get_or ws 13 0) 16383
    ∷ leb (get_or ws 14 0) 4095 ∷ leb (get_or ws 15 0) 4095 ∷ within 1 1023 (get_or ws 16 0) ∷ within 1 1023 (get_or ws 17 0)
    ∷ leb (get_or ws 18 0) 2047 ∷ leb (get_or ws 19 0) 65535 ∷ leb (get_or ws 20 0) 65535 ∷ leb (get_or ws 21 0) 512 ∷ []

unfoldable pub copy_test : List ℕ → Bool
copy_test ws = all_of (leb (get_or ws 6 0) 3) (copy_tests ws)

abbrev pub place_tests : List ℕ → List Bool
place_tests ws =
    ltb (get_or ws 24 0) (get_or ws 17 0) ∷ leb 1 (get_or ws 26 0) ∷ leb (get_or ws 24 0 + get_or ws 26 0) (get_or ws 17 0) ∷ leb (get_or ws 25 0 + get_or ws 26 0) (get_or ws 12 0)
    ∷ leb 1 (get_or ws 27 0) ∷ leb (get_or ws 23 0 + get_or ws 27 0) (get_or ws 16 0) ∷ leb (get_or ws 29 0) 15 ∷ within 1 1038 (get_or ws 30 0)
    ∷ leb (get_or ws 28 0 + get_or ws 30 0) (get_or ws 11 0) ∷ leb (get_or ws 31 0) 1039 ∷ []

unfoldable pub place_test : List ℕ → Bool
place_test ws = copy_test ws && all_of (ltb (get_or ws 23 0) (get_or ws 16 0)) (place_tests ws)
