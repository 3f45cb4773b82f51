-- The test of a copy course's words is what a step asks of its place, and what was stored comes back.
-- Assumes nothing.
use Rattle.std.specs.Prelude.{◌≡◌, refl, Bool, true, false, List, ℕ, leb, ltb, eqb, get_or}
use Rattle.std.proofs.Common.{arith, leb-true, le-leb, ltb-true, lt-ltb, eqb-true, eq-eqb}
use Rattle.std.proofs.lemmas.Bool.{and_parts}
use Rattle.words.specs.declared.count.Counts.{Counts}
use Rattle.plan.specs.Sound.{SoundCopy}
use Rattle.copy.specs.declared.types.Stage.{Stage}
use Rattle.copy.specs.declared.types.Place.{Place}
use Rattle.copy.specs.Walk.{SoundPlace}
use Rattle.stored_fields.proofs.Laws.{all_yes, all_no, each, within_yes, within_no, up_back, small_below, below_small}
use Rattle.stored_fields.specs.Signed.{flag_word}
use Rattle.stored_copy.specs.Course.{copy_words, copy_from, strip_from, place_from, copy_tests, copy_test, place_tests, place_test}

-- ---- the test

pub copy_yes : (ws : List ℕ) → copy_test ws ≡ true → SoundCopy (copy_from ws)
unfolding copy_test copy_from
copy_yes ws t =
    let h = all_yes (leb (get_or ws 6 0) 3) (copy_tests ws) t in
    record {
      fmt = leb-true _ _ h.1.1.0;
      siz = leb-true _ _ h.0;
      palette = leb-true _ _ h.1.1.1.0;
      rows = (within_yes _ _ _ h.1.1.1.1.0).0;
      rows' = (within_yes _ _ _ h.1.1.1.1.0).1;
      image_width = (within_yes _ _ _ h.1.1.1.1.1.0).0;
      image_width' = (within_yes _ _ _ h.1.1.1.1.1.0).1;
      image_height = (within_yes _ _ _ h.1.1.1.1.1.1.0).0;
      image_height' = (within_yes _ _ _ h.1.1.1.1.1.1.0).1;
      frame_cells = leb-true _ _ h.1.1.1.1.1.1.1.0;
      left = small_below 12 (get_or ws 14 0) (omega arith) (leb-true _ _ h.1.1.1.1.1.1.1.1.0);
      top = small_below 12 (get_or ws 15 0) (omega arith) (leb-true _ _ h.1.1.1.1.1.1.1.1.1.0);
      width = (within_yes _ _ _ h.1.1.1.1.1.1.1.1.1.1.0).0;
      width' = (within_yes _ _ _ h.1.1.1.1.1.1.1.1.1.1.0).1;
      height = (within_yes _ _ _ h.1.1.1.1.1.1.1.1.1.1.1.0).0;
      height' = (within_yes _ _ _ h.1.1.1.1.1.1.1.1.1.1.1.0).1;
      source_x = leb-true _ _ h.1.1.1.1.1.1.1.1.1.1.1.1.0;
      source_y = leb-true _ _ h.1.1.1.1.1.1.1.1.1.1.1.1.1.0;
      x_skip = leb-true _ _ h.1.1.1.1.1.1.1.1.1.1.1.1.1.1.0;
      capacity = leb-true _ _ h.1.1.1.1.1.1.1.1.1.1.1.1.1.1.1;
      texels_per_word = eqb-true _ _ h.1.0;
    }

pub copy_no : (s : Stage) (p : Place) (n : Counts) → SoundCopy p.copy → copy_test (copy_words s p n) ≡ true
unfolding copy_test copy_words
copy_no s p n h = all_no (leb p.copy.siz 3) (copy_tests (copy_words s p n)) (le-leb _ _ h.siz, (eq-eqb _ _ h.texels_per_word, (le-leb _ _ h.fmt, (le-leb _ _ h.palette, (within_no _ _ _ h.rows h.rows', (within_no _ _ _ h.image_width h.image_width', (within_no _ _ _ h.image_height h.image_height', (le-leb _ _ h.frame_cells, (le-leb _ _ (below_small h.left), (le-leb _ _ (below_small h.top), (within_no _ _ _ h.width h.width', (within_no _ _ _ h.height h.height', (le-leb _ _ h.source_x, (le-leb _ _ h.source_y, (le-leb _ _ h.x_skip, le-leb _ _ h.capacity)))))))))))))))

pub place_yes : (ws : List ℕ) → place_test ws ≡ true → SoundPlace (place_from ws)
unfolding place_test place_from strip_from copy_from
place_yes ws t =
    let e = and_parts (copy_test ws) _ t in
    let h = all_yes (ltb (get_or ws 23 0) (get_or ws 16 0)) (place_tests ws) e.1 in
    record {
      copy = copy_yes ws e.0;
      x = ltb-true _ _ h.0;
      y = ltb-true _ _ h.1.0;
      rows = record { height = leb-true _ _ h.1.1.0; height' = leb-true _ _ h.1.1.1.0; below = leb-true _ _ h.1.1.1.1.0 };
      strip = record { width = leb-true _ _ h.1.1.1.1.1.0; width' = leb-true _ _ h.1.1.1.1.1.1.0; offset = leb-true _ _ h.1.1.1.1.1.1.1.0; load = (within_yes _ _ _ h.1.1.1.1.1.1.1.1.0).0; load' = (within_yes _ _ _ h.1.1.1.1.1.1.1.1.0).1; right = leb-true _ _ h.1.1.1.1.1.1.1.1.1.0; line = leb-true _ _ h.1.1.1.1.1.1.1.1.1.1 };
    }

pub place_no : (s : Stage) (p : Place) (n : Counts) → SoundPlace p → place_test (copy_words s p n) ≡ true
unfolding place_test copy_words
place_no s p n h = each (copy_test (copy_words s p n)) _ (copy_no s p n h.copy) (all_no (ltb p.x p.copy.width) (place_tests (copy_words s p n)) (lt-ltb _ _ h.x, (lt-ltb _ _ h.y, (le-leb _ _ h.rows.height, (le-leb _ _ h.rows.height', (le-leb _ _ h.rows.below, (le-leb _ _ h.strip.width, (le-leb _ _ h.strip.width', (le-leb _ _ h.strip.offset, (within_no _ _ _ h.strip.load h.strip.load', (le-leb _ _ h.strip.right, le-leb _ _ h.strip.line)))))))))))

-- ---- what was stored comes back

flag_back : (t : Bool) → eqb (flag_word t) 1 ≡ t
flag_back true = refl
flag_back false = refl

pub copy_back : (s : Stage) (p : Place) (n : Counts) → SoundCopy p.copy → copy_from (copy_words s p n) ≡ p.copy
unfolding copy_from copy_words
copy_back s p n h = rw (flag_back p.copy.flip, up_back {k = 12} (omega arith) h.left, up_back {k = 12} (omega arith) h.top)

pub place_back : (s : Stage) (p : Place) (n : Counts) → SoundCopy p.copy → place_from (copy_words s p n) ≡ p
unfolding place_from strip_from copy_words
place_back s p n h = rw (copy_back s p n h)
