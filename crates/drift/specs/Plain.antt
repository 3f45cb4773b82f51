-- Entries that are no rectangles, outcomes that have only such entries, and what that means for `AllNear`.
-- Assumes nothing.
use Rattle.std.specs.Prelude.{◌≡◌, refl, Bool, true, false, ◌||◌, List, [], ◌∷◌, ◌++◌, ℕ, ◌+◌, ◌-◌, ◌/◌, ◌^◌, ltb, eqb, ℤ, pos, ◌+ℤ◌, ◌-ℤ◌, Option, Some, None}
use Rattle.std.specs.Int.Signed.{lt_z, le_z}
use Rattle.signed.specs.Diff.{up}
use Rattle.signed.specs.Floor.{modulo}
use Rattle.plan.specs.declared.types.Entry.{Entry}
use Rattle.plan.specs.Out.{Out, more, ◌>>=◌, yield, emit}
use Rattle.plan.specs.declared.types.Entry.TheVariants.{Image, Tile, Size, Load, Rect}
use Rattle.plan.specs.Out.Out.{go, stop}
use Rattle.object.specs.declared.types.Verdict.{Verdict}
use Rattle.object.specs.declared.types.Verdict.TheVariants as verdict
use Rattle.checks.specs.Check.{verdict_number}
use Rattle.load_tile.specs.declared.load.LoadRequest.{LoadRequest}
use Rattle.load_tile.specs.Load.{request_of}
use Rattle.plan.specs.Load.{load_out, load_tile, source_address}
use Rattle.plan.specs.declared.types.Scaled.{Scaled}
use Rattle.plan.specs.declared.types.Source.{Source}
use Rattle.plan.specs.Scaled.{back, tile7, load_part, load_1cyc_tile, from_top, split_row, up_to_end, advance, load_1cyc}
use Rattle.plan.specs.Laws.{entries_out}
use Rattle.plan.specs.Demand.{Drift, AllNear}

abbrev pub Plain : List Entry → Type 0
Plain [] = Unit {0}
Plain (Image fmt siz width address ∷ es) = Plain es
Plain (Tile i fmt siz line tmem palette cms cmt masks maskt ∷ es) = Plain es
Plain (Size i uls ult lrs lrt ∷ es) = Plain es
Plain (Load i uls ult lrs lrt words rows stride start len ∷ es) = Plain es
Plain (Rect i ulx uly lrx lry uls ult dsdx dtdy row ∷ es) = ⊥

pub plain_append : (es fs : List Entry) → Plain es → Plain fs → Plain (es ++ fs)
plain_append [] fs p q = q
plain_append (Image fmt siz width address ∷ es) fs p q = plain_append es fs p q
plain_append (Tile i fmt siz line tmem palette cms cmt masks maskt ∷ es) fs p q = plain_append es fs p q
plain_append (Size i uls ult lrs lrt ∷ es) fs p q = plain_append es fs p q
plain_append (Load i uls ult lrs lrt words rows stride start len ∷ es) fs p q = plain_append es fs p q
plain_append (Rect i ulx uly lrx lry uls ult dsdx dtdy row ∷ es) fs p q = absurd p

-- entries without a rectangle are skipped
pub plain_near : (d : Drift) (n : ℕ) (ks : List ℤ) (es fs : List Entry) → Plain es → AllNear d n ks fs → AllNear d n ks (es ++ fs)
plain_near d n ks [] fs p q = q
plain_near d n ks (Image fmt siz width address ∷ es) fs p q = plain_near d n ks es fs p q
plain_near d n ks (Tile i fmt siz line tmem palette cms cmt masks maskt ∷ es) fs p q = plain_near d n ks es fs p q
plain_near d n ks (Size i uls ult lrs lrt ∷ es) fs p q = plain_near d n ks es fs p q
plain_near d n ks (Load i uls ult lrs lrt words rows stride start len ∷ es) fs p q = plain_near d n ks es fs p q
plain_near d n ks (Rect i ulx uly lrx lry uls ult dsdx dtdy row ∷ es) fs p q = absurd p

pub plain_alone : (d : Drift) (n : ℕ) (ks : List ℤ) (es : List Entry) → Plain es → AllNear d n ks es
plain_alone d n ks [] p = tt
plain_alone d n ks (Image fmt siz width address ∷ es) p = plain_alone d n ks es p
plain_alone d n ks (Tile i fmt siz line tmem palette cms cmt masks maskt ∷ es) p = plain_alone d n ks es p
plain_alone d n ks (Size i uls ult lrs lrt ∷ es) p = plain_alone d n ks es p
plain_alone d n ks (Load i uls ult lrs lrt words rows stride start len ∷ es) p = plain_alone d n ks es p
plain_alone d n ks (Rect i ulx uly lrx lry uls ult dsdx dtdy row ∷ es) p = absurd p

-- a prefix of a plan whose rectangles are near: what a refused or a cut-off plan has
pub near_prefix : (d : Drift) (n : ℕ) (ks : List ℤ) (es fs : List Entry) → AllNear d n ks (es ++ fs) → AllNear d n ks es
near_prefix d n ks [] fs q = tt
near_prefix d n ks (Image fmt siz width address ∷ es) fs q = near_prefix d n ks es fs q
near_prefix d n ks (Tile i fmt siz line tmem palette cms cmt masks maskt ∷ es) fs q = near_prefix d n ks es fs q
near_prefix d n ks (Size i uls ult lrs lrt ∷ es) fs q = near_prefix d n ks es fs q
near_prefix d n ks (Load i uls ult lrs lrt words rows stride start len ∷ es) fs q = near_prefix d n ks es fs q
near_prefix d n [] (Rect i ulx uly lrx lry uls ult dsdx dtdy row ∷ es) fs q = absurd q
near_prefix d n (k ∷ ks) (Rect i ulx uly lrx lry uls ult dsdx dtdy row ∷ es) fs q = (q.0, near_prefix d (n + (lry - uly) / 4) ks es fs q.1)

-- a verdict that is no 0
abbrev pub Refuses : Verdict → Type 0
Refuses v = eqb (verdict_number v) 0 ≡ false

abbrev pub Still : {A : Type 0} → (A → Type 0) → Out A → Type 0
Still P (go es a) = Plain es × P a
Still P (stop es l v) = Plain es × Refuses v

-- an outcome with no rectangle, whose value, if it goes on, is such that P, and which else stops with a verdict above 0
pub record Quiet {A : Type 0} (P : A → Type 0) (o : Out A) : Type 0 where
  pub still : Still P o

pub quiet_more : {A : Type 0} {P : A → Type 0} (es : List Entry) (a : Out A) → Plain es → Quiet P a → Quiet P (more es a)
quiet_more es (go fs a) p q = record { still = (plain_append es fs p q.still.0, q.still.1) }
quiet_more es (stop fs l v) p q = record { still = (plain_append es fs p q.still.0, q.still.1) }

pub quiet_bind : {A B : Type 0} {P : A → Type 0} {Q : B → Type 0} (a : Out A) (k : A → Out B) → Quiet P a → ((x : A) → P x → Quiet Q (k x)) → Quiet Q (a >>= k)
quiet_bind (go es x) k p f = quiet_more es (k x) p.still.0 (f x p.still.1)
quiet_bind (stop es l v) k p f = record { still = p.still }

pub quiet_yield : {A : Type 0} {P : A → Type 0} (a : A) → P a → Quiet P (yield a)
quiet_yield a p = record { still = (tt, p) }

pub quiet_stop : {A : Type 0} {P : A → Type 0} (l : List Entry) (v : Verdict) → Refuses v → Quiet P (stop [] l v)
quiet_stop l v r = record { still = (tt, r) }

pub entries_more : {A : Type 0} (es : List Entry) (a : Out A) → entries_out (more es a) ≡ es ++ entries_out a
entries_more es (go fs a) = refl
entries_more es (stop fs l v) = refl

-- after an outcome with no rectangle, what is near stays near
pub near_bind : {A B : Type 0} {P : A → Type 0} (d : Drift) (n : ℕ) (ks : List ℤ) (a : Out A) (k : A → Out B) → Quiet P a → ((x : A) → P x → AllNear d n ks (entries_out (k x))) → AllNear d n ks (entries_out (a >>= k))
near_bind d n ks (go es x) k p f = rw (entries_more es (k x)) (plain_near d n ks es (entries_out (k x)) p.still.0 (f x p.still.1))
near_bind d n ks (stop es l v) k p f = plain_alone d n ks es p.still.0

-- ---- the scaled plan's parts: no load has a rectangle

abbrev pub Any : {A : Type 0} → A → Type 0
Any a = Unit {0}

-- both branches of a test
pub quiet_if : {A : Type 0} {P : A → Type 0} (t : Bool) (a b : Out A) → Quiet P a → Quiet P b → Quiet P (elim t [ true ↦ a | false ↦ b ])
quiet_if true a b p q = p
quiet_if false a b p q = q

pub quiet_address : (p : ℕ) (o : ℤ) → Quiet Any (source_address p o)
unfolding source_address
quiet_address p o = quiet_if (lt_z (pos p +ℤ o) (pos 0)) _ _ (quiet_stop _ verdict.Address refl) (quiet_if (ltb (up (pos p +ℤ o)) (2 ^ 64)) _ _ (quiet_yield _ tt) (quiet_stop _ verdict.Address refl))

quiet_given : (r : Option LoadRequest) (i uls ult lrs lrt : ℕ) → Quiet Any (load_out r i uls ult lrs lrt)
unfolding load_out
quiet_given (Some r) i uls ult lrs lrt = record { still = (tt, tt) }
quiet_given None i uls ult lrs lrt = quiet_stop _ verdict.Address refl

pub quiet_load_tile : (siz width address i uls ult lrs lrt : ℕ) → Quiet Any (load_tile siz width address i uls ult lrs lrt)
unfolding load_tile
quiet_load_tile siz width address i uls ult lrs lrt = quiet_given (request_of siz width address uls ult lrs lrt) i uls ult lrs lrt

pub quiet_part : (z : Scaled) (pointer : ℕ) (rows width : ℤ) → Quiet Any (load_part z pointer rows width)
unfolding load_part
quiet_part z pointer rows width = quiet_more (Image _ _ _ _ ∷ []) _ tt (quiet_load_tile _ _ _ _ _ _ _ _)

pub quiet_load : (z : Scaled) (pointer : ℕ) (rows destination width : ℤ) (set_tile : Bool) → Quiet Any (load_1cyc_tile z pointer rows destination width set_tile)
unfolding load_1cyc_tile
quiet_load z pointer rows destination width true = quiet_if (le_z rows (pos 0) || (le_z width (pos 0) || lt_z destination (pos 0))) _ _ (quiet_stop _ verdict.Piece refl) (quiet_more (tile7 z destination ∷ []) _ tt (quiet_part z pointer rows width))
quiet_load z pointer rows destination width false = quiet_if (le_z rows (pos 0) || (le_z width (pos 0) || lt_z destination (pos 0))) _ _ (quiet_stop _ verdict.Piece refl) (quiet_more [] _ tt (quiet_part z pointer rows width))

pub quiet_back : (z : Scaled) (odd p : ℕ) → Quiet Any (back z odd p)
quiet_back z odd p = quiet_if (eqb odd 0) _ _ (quiet_yield _ tt) (quiet_address p _)

pub quiet_top : (z : Scaled) (remain rows : ℤ) → Quiet Any (from_top z remain rows)
unfolding from_top
quiet_top z remain rows = quiet_if (lt_z (pos 0) (rows -ℤ remain)) _ _ (quiet_bind _ _ (quiet_address _ _) (λ p _. quiet_bind _ _ (quiet_back z (modulo remain 2) p) (λ q _. quiet_load z q _ _ _ true))) (quiet_yield _ tt)

pub quiet_split : (z : Scaled) (pointer : ℕ) (loadable : ℤ) → Quiet Any (split_row z pointer loadable)
unfolding split_row
quiet_split z pointer loadable =
    quiet_if (eqb z.split 0) _ _ (quiet_yield _ tt)
    (quiet_bind _ _ (quiet_address _ _) (λ p _. quiet_bind _ _ (quiet_back z (modulo loadable 2) p) (λ a _. quiet_bind _ _ (quiet_back z (modulo loadable 2) z.address) (λ b _.
    quiet_bind _ _ (quiet_load z b _ _ _ true) (λ _ _. quiet_load z a _ _ _ true)))))

pub quiet_tile : (z : Scaled) (destination : ℤ) → Quiet Any (emit (tile7 z destination))
quiet_tile z destination = record { still = (tt, tt) }

pub quiet_end : (z : Scaled) (pointer : ℕ) (loadable : ℤ) → Quiet Any (up_to_end z pointer loadable)
unfolding up_to_end
quiet_end z pointer loadable = quiet_if (lt_z (pos 0) loadable) _ _ (quiet_load z pointer _ _ _ true) (quiet_tile z (pos 0))

-- `remain` after rows: less the rows, and where it wraps the image's rows more
pub data After (n : ℕ) (remain rows : ℤ) (s : Source) : Type 0 where
  plainly : s.remain ≡ remain -ℤ rows → After n remain rows s
  wrapping : s.remain ≡ remain -ℤ rows +ℤ pos n → After n remain rows s

pub quiet_advance : (z : Scaled) (src : Source) (rows : ℤ) → Quiet (After z.source_rows src.remain rows) (advance z src rows)
unfolding advance
quiet_advance z src rows =
    quiet_if (lt_z (pos 0) (src.remain -ℤ rows)) _ _
    (quiet_bind _ _ (quiet_address _ _) (λ p _. quiet_yield _ (plainly refl)))
    (quiet_bind _ _ (quiet_address _ _) (λ p _. quiet_yield _ (wrapping refl)))

pub quiet_rows : (z : Scaled) (src : Source) (rows : ℤ) → Quiet (After z.source_rows src.remain rows) (load_1cyc z src rows)
unfolding load_1cyc
quiet_rows z src rows =
    quiet_if (le_z (rows +ℤ pos z.bilerp) (src.remain -ℤ pos z.split)) _ _
    (quiet_bind _ _ (quiet_bind _ _ (quiet_load z _ _ _ _ false) (λ _ _. quiet_address _ _)) (λ p _. quiet_yield _ (plainly refl)))
    (quiet_bind _ _ (quiet_bind _ _ (quiet_bind _ _ (quiet_top z _ _) (λ _ _. quiet_split z _ _)) (λ _ _. quiet_end z _ _)) (λ _ _. quiet_advance z src rows))
