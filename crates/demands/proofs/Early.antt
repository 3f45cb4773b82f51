-- The verdict table's last column for 1 to 6: nothing is written. Both walks refuse by 7, 8 and 9 alone, so a smaller verdict was given before any entry. D is docs/SPECIFICATION.md, section 4.
-- Assumes nothing.
use Rattle.std.specs.Prelude.{◌≡◌, refl, Bool, true, false, ◌||◌, [], ◌∷◌, ℕ, zero, suc, ◌≤◌, ◌%◌, ◌^◌, ltb, eqb, ℤ, pos, ◌+ℤ◌, ◌-ℤ◌, Option, Some, None, Ok, Err}
use Rattle.std.proofs.Common.{arith}
use Rattle.std.specs.Int.Signed.{lt_z, le_z}
use Rattle.signed.specs.Diff.{up}
use Rattle.signed.specs.Floor.{modulo}
use Rattle.checks.specs.Check.{Checked}
use Rattle.object.specs.declared.types.Background.TheVariants as background
use Rattle.object.specs.declared.types.Verdict.TheVariants as verdict
use Rattle.checks.specs.Check.{verdict_number, checked_of}
use Rattle.load_tile.specs.declared.load.LoadRequest.{LoadRequest}
use Rattle.load_tile.specs.Load.{request_of}
use Rattle.plan.specs.declared.types.Entry.TheVariants as entry
use Rattle.plan.specs.declared.types.Copy.{Copy}
use Rattle.plan.specs.declared.types.Strip.{Strip}
use Rattle.plan.specs.declared.types.Scaled.{Scaled}
use Rattle.plan.specs.declared.types.Source.{Source}
use Rattle.plan.specs.declared.types.Walk.{Walk}
use Rattle.plan.specs.declared.types.Clip.{Clip}
use Rattle.plan.specs.declared.types.First.{First}
use Rattle.plan.specs.Request.{Request}
use Rattle.plan.specs.Out.{Out, yield, refuse}
use Rattle.plan.specs.Out.Out.{go, stop}
use Rattle.plan.specs.Load.{load_out, load_tile, source_address}
use Rattle.plan.specs.Copy.{field, strip_entries, strip, strip_of, columns, rows, copy_empty, copy_of, copy_plan}
use Rattle.plan.specs.Scaled.{tile7, load_part, load_1cyc_tile, back, from_top, split_row, up_to_end, advance, load_1cyc, draw_pass, idle_pass, draw_of, pass, passes, clip_of, scaled_empty, start_of, scaled_of, slices_bad, first_of, scaled_plan}
use Rattle.plan.specs.Whole.{copy_out, scaled_out, checked_out, plan_with, plan_of}
use Rattle.plan.proofs.Stops.{Stops, stops_go, stops_stop, stops_more, stops_bind, stops_if}
use Rattle.demands.specs.Early.{Nothing}

-- an outcome that, if it stops, stops with 7 or more
abbrev Late : {A : Type 0} → Out A → Type 0
Late o = Stops (λ v. 7 ≤ verdict_number v) o

-- ---- loads and address sums

late_address : (p : ℕ) (o : ℤ) → Late (source_address p o)
unfolding source_address
late_address p o = stops_if (lt_z (pos p +ℤ o) (pos 0)) _ _ (stops_stop _ verdict.Address (omega arith)) (stops_if (ltb (up (pos p +ℤ o)) (2 ^ 64)) _ _ (stops_go _ _) (stops_stop _ verdict.Address (omega arith)))

late_given : (r : Option LoadRequest) (i uls ult lrs lrt : ℕ) → Late (load_out r i uls ult lrs lrt)
unfolding load_out
late_given (Some r) i uls ult lrs lrt = stops_go _ _
late_given None i uls ult lrs lrt = stops_stop _ verdict.Address (omega arith)

late_tile : (siz width address i uls ult lrs lrt : ℕ) → Late (load_tile siz width address i uls ult lrs lrt)
unfolding load_tile
late_tile siz width address i uls ult lrs lrt = late_given (request_of siz width address uls ult lrs lrt) i uls ult lrs lrt

-- ---- copy plans

late_entries : (c : Copy) (y sy h x : ℕ) (s : Strip) → Late (strip_entries c y sy h x s)
unfolding strip_entries
late_entries c y sy h x s = search (stops_bind, stops_more, late_tile, stops_go)

late_strip : (c : Copy) (y sy h x : ℕ) (s : Strip) → Late (strip c y sy h x s)
unfolding strip
late_strip c y sy h x s = stops_if (ltb c.capacity _) _ _ (stops_stop _ verdict.TooBig (omega arith)) (stops_bind _ _ (late_entries c y sy h x s) (λ _. stops_go _ _))

late_columns : (n : ℕ) (c : Copy) (y sy h x : ℕ) → Late (columns n c y sy h x)
unfolding columns
late_columns zero c y sy h x = stops_go _ _
late_columns (suc n) c y sy h x = stops_if (ltb x c.width) _ _ (stops_bind _ _ (late_strip c y sy h x (strip_of c x)) (λ next. late_columns n c y sy h next)) (stops_go _ _)

late_rows : (n : ℕ) (c : Copy) (y : ℕ) → Late (rows n c y)
unfolding rows
late_rows zero c y = stops_go _ _
late_rows (suc n) c y = stops_if (ltb y c.height) _ _ (stops_bind _ _ (late_columns _ c y _ _ 0) (λ _. late_rows n c _)) (stops_go _ _)

late_copy : (c : Copy) → Late (copy_plan c)
unfolding copy_plan
late_copy c = stops_more (entry.Image c.fmt c.siz (field c) c.address ∷ []) _ (late_rows c.height c 0)

-- ---- scaled plans

late_part : (z : Scaled) (pointer : ℕ) (rows width : ℤ) → Late (load_part z pointer rows width)
unfolding load_part
late_part z pointer rows width = search (stops_more, late_tile)

late_load : (z : Scaled) (pointer : ℕ) (rows destination width : ℤ) (set_tile : Bool) → Late (load_1cyc_tile z pointer rows destination width set_tile)
unfolding load_1cyc_tile
late_load z pointer rows destination width true = stops_if (le_z rows (pos 0) || (le_z width (pos 0) || lt_z destination (pos 0))) _ _ (stops_stop [] verdict.Piece (omega arith)) (stops_more (tile7 z destination ∷ []) _ (late_part z pointer rows width))
late_load z pointer rows destination width false = stops_if (le_z rows (pos 0) || (le_z width (pos 0) || lt_z destination (pos 0))) _ _ (stops_stop [] verdict.Piece (omega arith)) (stops_more [] _ (late_part z pointer rows width))

late_back : (z : Scaled) (odd p : ℕ) → Late (back z odd p)
late_back z odd p = stops_if (eqb odd 0) _ _ (stops_go _ _) (late_address p _)

late_top : (z : Scaled) (remain rows : ℤ) → Late (from_top z remain rows)
unfolding from_top
late_top z remain rows = stops_if (lt_z (pos 0) (rows -ℤ remain)) _ _ (stops_bind _ _ (late_address _ _) (λ p. stops_bind _ _ (late_back z (modulo remain 2) p) (λ q. late_load z q _ _ _ true))) (stops_go _ _)

late_split : (z : Scaled) (pointer : ℕ) (loadable : ℤ) → Late (split_row z pointer loadable)
unfolding split_row
late_split z pointer loadable =
    stops_if (eqb z.split 0) _ _ (stops_go _ _)
    (stops_bind _ _ (late_address _ _) (λ p. stops_bind _ _ (late_back z (modulo loadable 2) p) (λ a. stops_bind _ _ (late_back z (modulo loadable 2) z.address) (λ b.
    stops_bind _ _ (late_load z b _ _ _ true) (λ _. late_load z a _ _ _ true)))))

late_end : (z : Scaled) (pointer : ℕ) (loadable : ℤ) → Late (up_to_end z pointer loadable)
unfolding up_to_end
late_end z pointer loadable = stops_if (lt_z (pos 0) loadable) _ _ (late_load z pointer _ _ _ true) (stops_go _ _)

late_advance : (z : Scaled) (src : Source) (rows : ℤ) → Late (advance z src rows)
unfolding advance
late_advance z src rows = stops_if (lt_z (pos 0) (src.remain -ℤ rows)) _ _ (stops_bind _ _ (late_address _ _) (λ p. stops_go _ _)) (stops_bind _ _ (late_address _ _) (λ p. stops_go _ _))

late_loads : (z : Scaled) (src : Source) (rows : ℤ) → Late (load_1cyc z src rows)
unfolding load_1cyc
late_loads z src rows =
    stops_if (le_z (rows +ℤ pos z.bilerp) (src.remain -ℤ pos z.split)) _ _
    (stops_bind _ _ (stops_bind _ _ (late_load z _ _ _ _ false) (λ _. late_address _ _)) (λ p. stops_go _ _))
    (stops_bind _ _ (stops_bind _ _ (stops_bind _ _ (late_top z _ _) (λ _. late_split z _ _)) (λ _. late_end z _ _)) (λ _. late_advance z src rows))

late_pass : (z : Scaled) (w : Walk) → Late (pass z w)
unfolding pass idle_pass draw_pass
late_pass z w = stops_if (eqb (draw_of w) 0) _ _ (stops_bind _ _ (late_advance z _ _) (λ _. stops_go _ _)) (stops_bind _ _ (late_loads z _ _) (λ _. stops_go _ _))

late_passes : (n : ℕ) (z : Scaled) (w : Walk) → Late (passes n z w)
unfolding passes
late_passes zero z w = stops_go _ _
late_passes (suc n) z w = stops_if (lt_z (pos 0) w.frame_remain) _ _ (stops_bind _ _ (late_pass z w) (λ next. late_passes n z next)) (stops_go _ _)

late_scaled : (z : Scaled) (c : Clip) (f : First) → Late (scaled_plan z c f)
unfolding scaled_plan
late_scaled z c f =
    stops_bind _ _ (late_address _ _) (λ p. stops_more (tile7 z (pos 0) ∷ entry.Tile 0 z.fmt z.siz (z.line % 2 ^ 16) 0 z.palette 1 1 15 15 ∷ entry.Size 0 0 0 0 0 ∷ []) _ (late_passes _ z _))

-- ---- every plan

nothing_late : (o : Out (Unit {0})) → Late o → Nothing o
nothing_late (go es u) h low high = absurd (omega arith)
nothing_late (stop es l v) h low high = absurd (omega (arith, h.by))

nothing_if : (t : Bool) (a b : Out (Unit {0})) → Nothing a → Nothing b → Nothing (elim t [ true ↦ a | false ↦ b ])
nothing_if true a b h k = h
nothing_if false a b h k = k

checked_nothing : (r : Checked) (q : Request) → Nothing (checked_out r q)
unfolding checked_out copy_out scaled_out
checked_nothing (Err v) q = λ low high. (refl, refl)
checked_nothing (Ok (background.Copy bg)) q = let c = copy_of bg q.scissor q.address in nothing_if (copy_empty c) (yield tt) (copy_plan c) (λ _ _. (refl, refl)) (nothing_late (copy_plan c) (late_copy c))
checked_nothing (Ok (background.Scaled bg)) q =
    let c = clip_of bg q.scissor in
    let i = start_of bg c in
    let z = scaled_of bg q.mode q.address c i in
    nothing_if (scaled_empty c) (yield tt) (elim (slices_bad z) [ true ↦ refuse verdict.Slices | false ↦ scaled_plan z c (first_of z i) ]) (λ _ _. (refl, refl))
    (nothing_if (slices_bad z) (refuse verdict.Slices) (scaled_plan z c (first_of z i)) (λ _ _. (refl, refl)) (nothing_late (scaled_plan z c (first_of z i)) (late_scaled z c (first_of z i))))

-- D "nothing written", of every request that is refused by 1 to 6
pub early_nothing : (q : Request) → 1 ≤ verdict_number (plan_of q).verdict → verdict_number (plan_of q).verdict ≤ 6 → ((plan_of q).entries ≡ []) × ((plan_of q).left ≡ [])
unfolding plan_of plan_with
early_nothing q = checked_nothing (checked_of 4 q.bytes q.opcode q.scissor) q
