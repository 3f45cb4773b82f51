-- Every plan has few entries, all of small numbers: by the fuel of its walks, and by the ranges that its checks and its set-up leave.
-- Assumes nothing.
use Rattle.std.specs.Prelude.{◌≡◌, refl, Bool, true, false, cond, ◌||◌, List, [], ◌∷◌, ℕ, zero, suc, ◌+◌, ◌-◌, ◌*◌, ◌/◌, ◌%◌, ◌^◌, ◌≤◌, ◌<◌, ltb, eqb, ℤ, pos, negsuc, neg_ℤ, ◌+ℤ◌, ◌-ℤ◌, ◌*ℤ◌, length, Ok, Err}
use Rattle.std.proofs.Common.{ap, arith, mul-le-mul, ltb-true}
use Rattle.std.specs.Int.Signed.{lt_z, le_z}
use Rattle.signed.specs.Diff.{up, zdiff, zparts, zarith}
use Rattle.signed.specs.Floor.{modulo, modulo_lt}
use Rattle.signed.specs.Cast.{u16, i16}
use Rattle.object.specs.declared.types.Verdict.TheVariants as verdict
use Rattle.object.specs.declared.types.ObjBg.{ObjBg}
use Rattle.object.specs.declared.types.Scissor.{Scissor}
use Rattle.checks.specs.Check.{Checked}
use Rattle.object.specs.declared.types.Background.TheVariants as background
use Rattle.checks.specs.Check.{checked_of}
use Rattle.measures.specs.Measure.{quarters, texels, of_texels}
use Rattle.object.specs.Layout.{Bytes, layout, value_of, decode}
use Rattle.measures.specs.Range.{Below}
use Rattle.checks.specs.Known.{PassedCopy, PassedScaled}
use Rattle.object.specs.Reads.{read_below}
use Rattle.checks.proofs.Passed.{passed_copy, passed_scaled, checked_copy_is}
use Rattle.plan.specs.declared.types.Entry.TheVariants as entry
use Rattle.plan.specs.declared.types.Copy.{Copy}
use Rattle.plan.specs.declared.types.Strip.{Strip}
use Rattle.plan.specs.declared.types.Scaled.{Scaled}
use Rattle.plan.specs.declared.types.Source.{Source}
use Rattle.plan.specs.declared.types.Walk.{Walk}
use Rattle.plan.specs.declared.types.Clip.{Clip}
use Rattle.plan.specs.declared.types.First.{First}
use Rattle.plan.specs.declared.types.Start.{Start}
use Rattle.plan.specs.Request.{Request}
use Rattle.plan.specs.Out.{Out, plan_out}
use Rattle.plan.specs.Out.Out.{go, stop}
use Rattle.plan.specs.Whole.{copy_out, scaled_out, checked_out, plan_with, plan_of}
use Rattle.plan.specs.Copy.{field, bound, strip_entries, strip, strip_of, columns, rows, strip_row_of, strip_height_of, copy_of, copy_empty, copy_plan}
use Rattle.plan.specs.Scaled.{size_of, field_of, lrs_of, lrt_of, tile7, load_part, load_1cyc_tile, back, from_top, split_row, up_to_end, advance, load_1cyc, left_after, lines_of, rows_of, rect_of, draw_of, draw_pass, idle_pass, pass, passes, first_pass, scaled_plan, clip_of, scaled_empty, start_of, scaled_of, slices_bad, first_of}
use Rattle.plan.specs.Sound.{SoundCopy, SoundScaled}
use Rattle.strips.specs.Frame.{copy_sound}
use Rattle.strips.specs.Strip.{Bounds, Rows, strip_bounds, height_in}
use Rattle.scaled.specs.Range.{usable}
use Rattle.scaled.specs.ClipLaw.{clip_filled}
use Rattle.scaled.specs.StartLaw.{start_in}
use Rattle.scaled.specs.StripLaw.{scaled_sound}
use Rattle.small.specs.Small.{Small, AllSmall, Few, Any, few_more, few_bind, few_yield, few_stop, few_if, few_wider, few_emit, signed_in, cut_in, few_address, few_load}

-- a measure's number, by its bits
below_up : (k : ℕ) (z : ℤ) → Below k z → up z ≤ 2 ^ k - 1
below_up k (pos n) b = omega (zarith, b.high)
below_up k (negsuc n) b = omega arith

-- ---- copy plans: five entries a strip, and at most one strip a cell

bound_in : (n : ℕ) → bound n ≤ 65535
bound_in n = omega arith

flip_in : (t : Bool) (a b m : ℕ) → a ≤ m → b ≤ m → cond t a b ≤ m
flip_in true a b m h k = h
flip_in false a b m h k = k

few_entries : (c : Copy) (y sy h x : ℕ) (s : Strip) → SoundCopy c → Bounds c x s → Rows c y sy h → Few Any 5 (strip_entries c y sy h x s)
unfolding strip_entries
few_entries c y sy h x s k b r =
    let line = s.line % 2 ^ 16 in
    let low : line ≤ 1039 = omega (arith, b.line) in
    let mirror : cond c.flip 1 0 ≤ 255 = flip_in c.flip 1 0 255 (omega arith) (omega arith) in
    let mask : cond c.flip 15 0 ≤ 255 = flip_in c.flip 15 0 255 (omega arith) (omega arith) in
    few_bind _ _
    (few_more
    (entry.Tile 7 c.fmt c.siz line 0 c.palette 0 0 0 0
    ∷ entry.Tile 0 c.fmt c.siz line 0 c.palette (cond c.flip 1 0) 0 (cond c.flip 15 0) 0
    ∷ entry.Size 0 0 0 (bound (s.load_width - 1)) (bound (h - 1))
    ∷ [])
    _
    (omega (arith, k.fmt, k.siz, k.palette), (omega (arith, k.fmt, k.siz, k.palette), (omega arith, tt)))
    (few_load c.siz (field c) c.address 7 (bound s.aligned_left) (bound sy) (bound (s.aligned_left + s.load_width - 1)) (bound (sy + h - 1)) k.siz (omega arith) (omega arith) (bound_in s.aligned_left, (bound_in sy, (bound_in (s.aligned_left + s.load_width - 1), bound_in (sy + h - 1))))))
    (λ _ _.
    few_emit
    (entry.Rect 0 (quarters c.left + of_texels x) (quarters c.top + of_texels y) (quarters c.left + of_texels (x + s.strip_width - 1)) (quarters c.top + of_texels (y + h - 1))
    (i16 (cond c.flip (neg_ℤ (pos s.load_width)) (pos s.offset) *ℤ pos 32)) (pos 0) (pos 0x1000) (pos 0x400) sy)
    (omega (arith, below_up 12 c.left.0 k.left, below_up 12 c.top.0 k.top, k.width', k.height', k.image_height', b.width, b.width', r.height, r.height', r.below), (signed_in (cond c.flip (neg_ℤ (pos s.load_width)) (pos s.offset) *ℤ pos 32), (omega zarith, (omega zarith, omega zarith)))))

few_strip : (c : Copy) (y sy h x : ℕ) → SoundCopy c → x < c.width → Rows c y sy h → Few Any 5 (strip c y sy h x (strip_of c x))
unfolding strip
few_strip c y sy h x k l r =
    few_if (ltb c.capacity ((strip_of c x).line * h)) _ _ (λ _. few_stop _ verdict.TooBig)
    (λ _. few_bind _ _ (few_entries c y sy h x (strip_of c x) k (strip_bounds c x k l) r) (λ _ _. few_yield _ tt))

few_columns : (n : ℕ) (c : Copy) (y sy h x : ℕ) → SoundCopy c → Rows c y sy h → Few Any (5 * n) (columns n c y sy h x)
unfolding columns
few_columns zero c y sy h x k r = few_yield _ tt
few_columns (suc n) c y sy h x k r =
    few_wider (5 * suc n) _ (omega arith)
    (few_if (ltb x c.width) _ _ (λ e. few_bind _ _ (few_strip c y sy h x k (ltb-true x c.width e) r) (λ next _. few_columns n c y sy h next k r)) (λ _. few_yield _ tt))

few_rows : (n : ℕ) (c : Copy) (y : ℕ) → SoundCopy c → Few Any (5 * c.width * n) (rows n c y)
unfolding rows
few_rows zero c y k = few_wider (5 * c.width * 0) _ (omega arith) (few_yield _ tt)
few_rows (suc n) c y k =
    few_wider (5 * c.width * suc n) _ (omega arith)
    (few_if (ltb y c.height) _ _ (λ e. few_bind _ _ (few_columns c.width c y (strip_row_of c y) (strip_height_of c y) 0 k (height_in c y k (ltb-true y c.height e))) (λ _ _. few_rows n c (y + strip_height_of c y) k)) (λ _. few_yield _ tt))

pub few_copy : (c : Copy) → SoundCopy c → c.address < 2 ^ 64 → Few Any 5232646 (copy_plan c)
unfolding copy_plan
few_copy c k a =
    let cells : 5 * c.width * c.height ≤ 5 * 1023 * 1023 = mul-le-mul {n₁ = 5 * c.width} {n₂ = 5 * 1023} (omega (arith, k.width')) k.height' in
    few_wider 5232646 _ (omega arith)
    (few_more (entry.Image c.fmt c.siz (field c) c.address ∷ []) _ (omega (arith, k.fmt, k.siz), tt) (few_rows c.height c 0 k))

-- ---- scaled plans

abbrev Reached : ℕ → Type 0
Reached p = p < 2 ^ 64

abbrev From : Source → Type 0
From s = s.pointer < 2 ^ 64

size_in : (z : Scaled) → size_of z ≤ 3
size_in z = flip_in (eqb z.siz 3) 3 2 3 (omega arith) (omega arith)

few_part : (z : Scaled) (pointer : ℕ) (rows width : ℤ) → pointer < 2 ^ 64 → Few Any 2 (load_part z pointer rows width)
unfolding load_part
few_part z pointer rows width h =
    few_more (entry.Image 0 (size_of z) (field_of z) pointer ∷ []) _ (omega (arith, size_in z, cut_in (pos (z.stride / 2) -ℤ pos 1)), tt)
    (few_load (size_of z) (field_of z) pointer 7 0 0 (lrs_of width) (lrt_of z rows) (size_in z) (cut_in (pos (z.stride / 2) -ℤ pos 1)) (omega arith)
    (omega arith, (omega arith, (cut_in ((width -ℤ pos 1) *ℤ pos 16), flip_in (eqb z.siz 3) 0 (u16 (rows *ℤ pos 4 -ℤ pos 1)) 65535 (omega arith) (cut_in (rows *ℤ pos 4 -ℤ pos 1))))))

tile7_small : (z : Scaled) (destination : ℤ) → SoundScaled z → Small (tile7 z destination)
tile7_small z destination k = omega (arith, size_in z, k.line', cut_in destination)

few_load_tile : (z : Scaled) (pointer : ℕ) (rows destination width : ℤ) (set_tile : Bool) → SoundScaled z → pointer < 2 ^ 64 → Few Any 3 (load_1cyc_tile z pointer rows destination width set_tile)
unfolding load_1cyc_tile
few_load_tile z pointer rows destination width true k h =
    few_if (le_z rows (pos 0) || (le_z width (pos 0) || lt_z destination (pos 0))) _ _ (λ _. few_stop _ verdict.Piece) (λ _. few_more (tile7 z destination ∷ []) _ (tile7_small z destination k, tt) (few_part z pointer rows width h))
few_load_tile z pointer rows destination width false k h =
    few_wider 3 _ (omega arith)
    (few_if (le_z rows (pos 0) || (le_z width (pos 0) || lt_z destination (pos 0))) _ _ (λ _. few_stop _ verdict.Piece) (λ _. few_more [] _ tt (few_part z pointer rows width h)))

few_back : (z : Scaled) (odd p : ℕ) → p < 2 ^ 64 → Few Reached 0 (back z odd p)
few_back z odd p h = few_if (eqb odd 0) _ _ (λ _. few_yield _ h) (λ _. few_address p _)

few_top : (z : Scaled) (remain rows : ℤ) → SoundScaled z → Few Any 3 (from_top z remain rows)
unfolding from_top
few_top z remain rows k =
    few_if (lt_z (pos 0) (rows -ℤ remain)) _ _ (λ _. few_bind _ _ (few_address _ _) (λ p h. few_bind _ _ (few_back z (modulo remain 2) p h) (λ q l. few_load_tile z q _ _ _ true k l))) (λ _. few_yield _ tt)

few_split : (z : Scaled) (pointer : ℕ) (loadable : ℤ) → SoundScaled z → z.address < 2 ^ 64 → Few Any 6 (split_row z pointer loadable)
unfolding split_row
few_split z pointer loadable k a =
    few_if (eqb z.split 0) _ _ (λ _. few_yield _ tt)
    (λ _. few_bind _ _ (few_address _ _) (λ p h. few_bind _ _ (few_back z (modulo loadable 2) p h) (λ p1a l. few_bind _ _ (few_back z (modulo loadable 2) z.address a) (λ p1b m.
    few_bind _ _ (few_load_tile z p1b _ _ _ true k m) (λ _ _. few_load_tile z p1a _ _ _ true k l)))))

few_end : (z : Scaled) (pointer : ℕ) (loadable : ℤ) → SoundScaled z → pointer < 2 ^ 64 → Few Any 4 (up_to_end z pointer loadable)
unfolding up_to_end
few_end z pointer loadable k h = few_if (lt_z (pos 0) loadable) _ _ (λ _. few_load_tile z pointer _ _ _ true k h) (λ _. few_emit (tile7 z (pos 0)) (tile7_small z (pos 0) k))

few_advance : (z : Scaled) (src : Source) (rows : ℤ) → Few From 0 (advance z src rows)
unfolding advance
few_advance z src rows = few_if (lt_z (pos 0) (src.remain -ℤ rows)) _ _ (λ _. few_bind _ _ (few_address _ _) (λ p h. few_yield _ h)) (λ _. few_bind _ _ (few_address _ _) (λ p h. few_yield _ h))

few_loads : (z : Scaled) (src : Source) (rows : ℤ) → SoundScaled z → z.address < 2 ^ 64 → From src → Few From 16 (load_1cyc z src rows)
unfolding load_1cyc
few_loads z src rows k a h =
    few_if (le_z (rows +ℤ pos z.bilerp) (src.remain -ℤ pos z.split)) _ _
    (λ _. few_bind _ _ (few_bind _ _ (few_load_tile z src.pointer _ _ _ false k h) (λ _ _. few_address _ _)) (λ p l. few_yield _ l))
    (λ _. few_bind _ _ (few_bind _ _ (few_bind _ _ (few_top z _ _ k) (λ _ _. few_split z _ _ k a)) (λ _ _. few_end z _ _ k h)) (λ _ _. few_advance z src rows))

-- a walk whose lines end above 2,046, and whose rows come from an address
pub record Stands (w : Walk) : Type 0 where
  pub lines : w.frame_y + up w.frame_remain ≤ 2046
  pub from : From w.source

-- the lines of a pass are no more than are left, and leave the rest
drawn_lines : (y draw : ℕ) (remain : ℤ) (t : Bool) → lt_z (remain -ℤ pos draw) (pos 0) ≡ t → y + up remain ≤ 2046 → y + cond t (up (pos draw +ℤ (remain -ℤ pos draw))) draw + up (remain -ℤ pos draw) ≤ 2046
drawn_lines y draw remain true e h = let g = simp zdiff at e in simp zdiff (simp zparts (omega zarith))
drawn_lines y draw remain false e h = let g = simp zdiff at e in simp zdiff (simp zparts (omega zarith))

few_draw : (z : Scaled) (w : Walk) (draw : ℕ) → SoundScaled z → z.address < 2 ^ 64 → Stands w → Few Stands 17 (draw_pass z w draw)
unfolding draw_pass
few_draw z w draw k a s =
    let d = drawn_lines w.frame_y draw w.frame_remain (lt_z (left_after w draw) (pos 0)) refl s.lines in
    few_bind _ _ (few_loads z w.source (rows_of z w draw) k a s.from) (λ source h.
    few_more (rect_of z w (lines_of w draw) ∷ []) _
    ((omega (arith, below_up 12 z.x.0 k.x, below_up 14 z.x_end.0 k.x_end, k.source_rows', modulo_lt (pos z.source_rows -ℤ w.source.remain) k.source_rows), (signed_in z.s.0, (signed_in w.t.0, (signed_in (pos z.scale_w.0), signed_in (pos z.scale_h.0))))), tt)
    (few_yield _ (record { lines = d; from = h })))

few_idle : (z : Scaled) (w : Walk) → Stands w → Few Stands 0 (idle_pass z w)
unfolding idle_pass
few_idle z w s = few_bind _ _ (few_advance z w.source w.slice_rows) (λ source h. few_yield _ (record { lines = s.lines; from = h }))

few_pass : (z : Scaled) (w : Walk) → SoundScaled z → z.address < 2 ^ 64 → Stands w → Few Stands 17 (pass z w)
unfolding pass
few_pass z w k a s = few_if (eqb (draw_of w) 0) _ _ (λ _. few_idle z w s) (λ _. few_draw z w (draw_of w) k a s)

few_passes : (n : ℕ) (z : Scaled) (w : Walk) → SoundScaled z → z.address < 2 ^ 64 → Stands w → Few Any (17 * n) (passes n z w)
unfolding passes
few_passes zero z w k a s = few_yield _ tt
few_passes (suc n) z w k a s =
    few_wider (17 * suc n) _ (omega arith)
    (few_if (lt_z (pos 0) w.frame_remain) _ _ (λ _. few_bind _ _ (few_pass z w k a s) (λ next h. few_passes n z next k a h)) (λ _. few_yield _ tt))

pub few_scaled : (z : Scaled) (c : Clip) (f : First) → SoundScaled z → z.address < 2 ^ 64 → quarters c.y ≤ 4095 → quarters c.height ≤ 4095 → Few Any 1130418 (scaled_plan z c f)
unfolding scaled_plan
few_scaled z c f k a y h =
    few_wider 1130418 _ (omega arith)
    (few_bind _ _ (few_address _ _) (λ p l.
    few_more (tile7 z (pos 0) ∷ entry.Tile 0 z.fmt z.siz (z.line % 2 ^ 16) 0 z.palette 1 1 15 15 ∷ entry.Size 0 0 0 0 0 ∷ []) _
    (tile7_small z (pos 0) k, (omega (arith, k.fmt, k.siz, k.palette, k.line'), (omega arith, tt)))
    (few_passes (65 * texels (quarters c.height)) z (first_pass z c f p) k a (record { lines = omega arith; from = l }))))

-- ---- every plan

-- what a host can ask: bytes, and an address of 64 bits
pub record Asked (q : Request) : Type 0 where
  pub bytes : Bytes q.bytes
  pub address : q.address < 2 ^ 64

copy_address : (bg : ObjBg) (s : Scissor) (address : ℕ) → (copy_of bg s address).address ≡ address
unfolding copy_of
copy_address bg s address = refl

scaled_address : (bg : ObjBg) (mode address : ℕ) (c : Clip) (i : Start) → (scaled_of bg mode address c i).address ≡ address
unfolding scaled_of
scaled_address bg mode address c i = refl

few_copied : (bg : ObjBg) (q : Request) → PassedCopy bg q.scissor → bg.tmem_h / 4 ≤ 16383 → q.address < 2 ^ 64 → Few Any 5232646 (copy_out bg q)
unfolding copy_out
few_copied bg q p t a =
    let c = copy_of bg q.scissor q.address in
    few_if (copy_empty c) _ _ (λ _. few_yield _ tt) (λ e. few_copy c (copy_sound bg q.scissor q.address p t e) (rw (copy_address bg q.scissor q.address) a))

few_made : (bg : ObjBg) (q : Request) → PassedScaled bg q.scissor → q.address < 2 ^ 64 → Few Any 1130418 (scaled_out bg q)
unfolding scaled_out
few_made bg q p a =
    let c = clip_of bg q.scissor in
    let i = start_of bg c in
    let z = scaled_of bg q.mode q.address c i in
    few_if (scaled_empty c) _ _ (λ _. few_yield _ tt) (λ e.
    few_if (slices_bad z) _ _ (λ _. few_stop _ verdict.Slices) (λ f.
    let filled = clip_filled bg q.scissor p e in
    let inside = start_in bg c (usable p) filled in
    few_scaled z c (first_of z i) (scaled_sound bg q.mode q.address c i (usable p) filled inside f) (rw (scaled_address bg q.mode q.address c i) a) (below_up 12 c.y.0 filled.y) (below_up 12 c.height.0 filled.height')))

tmem_in : (bs : List ℕ) → Bytes bs → (decode 4 true bs).tmem_h ≤ 65535
unfolding decode value_of layout
tmem_in bs b = omega (arith, read_below bs 30 2 b)

few_checked : (q : Request) (r : Checked) → Asked q → checked_of 4 q.bytes q.opcode q.scissor ≡ r → Few Any 5232646 (checked_out r q)
unfolding checked_out
few_checked q (Err v) h e = few_wider 5232646 _ (omega arith) (few_stop [] v)
few_checked q (Ok (background.Copy bg)) h e = few_copied bg q (passed_copy 4 q.bytes q.opcode q.scissor bg h.bytes e) (omega (arith, ap (λ (o : ObjBg). o.tmem_h) (checked_copy_is 4 q.bytes q.opcode q.scissor bg e), tmem_in q.bytes h.bytes)) h.address
few_checked q (Ok (background.Scaled bg)) h e = few_wider 5232646 _ (omega arith) (few_made bg q (passed_scaled 4 q.bytes q.opcode q.scissor bg h.bytes e) h.address)

-- the numbers of every plan's entries, and how many there are
pub plan_small : (q : Request) → Asked q → AllSmall (plan_of q).entries × (length (plan_of q).entries ≤ 5232646)
unfolding plan_of plan_with
plan_small q h = by (checked_out (checked_of 4 q.bytes q.opcode q.scissor) q) (few_checked q (checked_of 4 q.bytes q.opcode q.scissor) h refl)
  where
    by : (o : Out (Unit {0})) → Few Any 5232646 o → AllSmall (plan_out o).entries × (length (plan_out o).entries ≤ 5232646)
    by (go es u) f = (f.small, f.few)
    by (stop es l v) f = (f.small, f.few)

-- a scaled plan's, from what its checks told
pub scaled_small : (q : Request) (bg : ObjBg) → checked_of 4 q.bytes q.opcode q.scissor ≡ Ok (background.Scaled bg) → PassedScaled bg q.scissor → q.address < 2 ^ 64 → AllSmall (plan_of q).entries
unfolding plan_of plan_with checked_out
scaled_small q bg e p a = rw e (by (scaled_out bg q) (few_made bg q p a))
  where
    by : (o : Out (Unit {0})) → Few Any 1130418 o → AllSmall (plan_out o).entries
    by (go es u) f = f.small
    by (stop es l v) f = f.small
