-- The numbers of a plan's entries are small, and its entries few: what a host's column, or its own field, may count on. The ranges are those of docs/SPECIFICATION.md, sections 9 and 10.
-- Assumes nothing.
use Rattle.std.specs.Prelude.{◌≡◌, refl, Bool, true, false, List, [], ◌∷◌, ◌++◌, ℕ, zero, suc, ◌+◌, ◌-◌, ◌*◌, ◌^◌, ◌≤◌, ◌<◌, ltb, ℤ, pos, negsuc, neg_ℤ, ◌+ℤ◌, length, ◌≤ℤ◌}
use Rattle.std.proofs.Common.{arith, length-append, SFits, ltb-true}
use Rattle.std.specs.Int.Signed.{lt_z}
use Rattle.std.specs.Int.{w16}
use mir.ValLaws.{to_z-Fits}
use Rattle.signed.specs.Diff.{up, zarith}
use Rattle.signed.specs.Floor.{modulo, modulo_lt}
use Rattle.signed.specs.Cast.{u16, i16}
use Rattle.object.specs.declared.types.Verdict.{Verdict}
use Rattle.object.specs.declared.types.Verdict.TheVariants as verdict
use Rattle.load_tile.specs.Load.{words_of, rows_of, stride_of, offset_of, granted, pick, request_of}
use Rattle.plan.specs.declared.types.Entry.{Entry}
use Rattle.plan.specs.declared.types.Entry.TheVariants as entry
use Rattle.plan.specs.Out.{Out, more, ◌>>=◌, yield, emit}
use Rattle.plan.specs.Out.Out.{go, stop}
use Rattle.plan.specs.Load.{load_out, load_tile, source_address}
use Rattle.plan.specs.Laws.{entries_out}

-- a number of 16 bits with a sign
abbrev pub Signed16 : ℤ → Type 0
Signed16 z = (neg_ℤ (pos 32768) ≤ℤ z) × (z ≤ℤ pos 32767)

-- no number but addresses and lengths has more than six digits, and a line at most four
abbrev pub Small : Entry → Type 0
Small (entry.Image fmt siz width address) = (fmt ≤ 255) × ((siz ≤ 255) × ((width ≤ 65535) × (address < 2 ^ 64)))
Small (entry.Tile i fmt siz line tmem palette cms cmt masks maskt) =
    (i ≤ 7) × ((fmt ≤ 255) × ((siz ≤ 255) × ((line ≤ 1039) × ((tmem ≤ 65535) × ((palette ≤ 255) × ((cms ≤ 255) × ((cmt ≤ 255) × ((masks ≤ 255) × (maskt ≤ 255)))))))))
Small (entry.Size i uls ult lrs lrt) = (i ≤ 7) × ((uls ≤ 65535) × ((ult ≤ 65535) × ((lrs ≤ 65535) × (lrt ≤ 65535))))
Small (entry.Load i uls ult lrs lrt words rows stride start len) =
    (i ≤ 7) × ((uls ≤ 65535) × ((ult ≤ 65535) × ((lrs ≤ 65535) × ((lrt ≤ 65535) × ((words ≤ 16384) × ((rows ≤ 16384) × ((stride ≤ 524288) × (start + len < 2 ^ 64))))))))
Small (entry.Rect i ulx uly lrx lry uls ult dsdx dtdy row) =
    ((i ≤ 7) × ((ulx ≤ 65535) × ((uly ≤ 65535) × ((lrx ≤ 65535) × ((lry ≤ 65535) × (row ≤ 65535)))))) × (Signed16 uls × (Signed16 ult × (Signed16 dsdx × Signed16 dtdy)))

abbrev pub AllSmall : List Entry → Type 0
AllSmall [] = Unit {0}
AllSmall (e ∷ es) = Small e × AllSmall es

abbrev Goes : {A : Type 0} → (A → Type 0) → Out A → Type 0
Goes P (go es a) = P a
Goes P (stop es l v) = Unit {0}

-- an outcome of at most n entries, all small, whose value, if it goes on, is such that P
pub record Few {A : Type 0} (P : A → Type 0) (n : ℕ) (o : Out A) : Type 0 where
  pub small : AllSmall (entries_out o)
  pub few : length (entries_out o) ≤ n
  pub goes : Goes P o

abbrev pub Any : {A : Type 0} → A → Type 0
Any a = Unit {0}

small_append : (es fs : List Entry) → AllSmall es → AllSmall fs → AllSmall (es ++ fs)
small_append [] fs h k = k
small_append (e ∷ es) fs h k = (h.0, small_append es fs h.1 k)

pub few_more : {A : Type 0} {P : A → Type 0} {n : ℕ} (es : List Entry) (a : Out A) → AllSmall es → Few P n a → Few P (length es + n) (more es a)
few_more es (go fs a) s h = let l = length-append es fs in let f = h.few in record { small = small_append es fs s h.small; few = omega arith; goes = h.goes }
few_more es (stop fs l v) s h = let k = length-append es fs in let f = h.few in record { small = small_append es fs s h.small; few = omega arith; goes = tt }

pub few_bind : {A B : Type 0} {P : A → Type 0} {Q : B → Type 0} {n m : ℕ} (a : Out A) (k : A → Out B) → Few P n a → ((x : A) → P x → Few Q m (k x)) → Few Q (n + m) (a >>= k)
few_bind (go es x) k h f = let g = few_more es (k x) h.small (f x h.goes) in let l = h.few in let r = g.few in record { small = g.small; few = omega arith; goes = g.goes }
few_bind (stop es l v) k h f = let r = h.few in record { small = h.small; few = omega arith; goes = tt }

pub few_yield : {A : Type 0} {P : A → Type 0} (a : A) → P a → Few P 0 (yield a)
few_yield a p = record { small = tt; few = omega arith; goes = p }

pub few_stop : {A : Type 0} {P : A → Type 0} (l : List Entry) (v : Verdict) → Few P 0 (stop [] l v)
few_stop l v = record { small = tt; few = omega arith; goes = tt }

-- as many as both branches together, which is more than either
pub few_if : {A : Type 0} {P : A → Type 0} {n m : ℕ} (t : Bool) (a b : Out A) → (t ≡ true → Few P n a) → (t ≡ false → Few P m b) → Few {A = A} P (n + m) (elim t [ true ↦ a | false ↦ b ])
few_if true a b h k = let f = (h refl).few in record { small = (h refl).small; few = omega arith; goes = (h refl).goes }
few_if false a b h k = let f = (k refl).few in record { small = (k refl).small; few = omega arith; goes = (k refl).goes }

pub few_wider : {A : Type 0} {P : A → Type 0} {n : ℕ} (m : ℕ) (o : Out A) → n ≤ m → Few P n o → Few P m o
few_wider m o l h = let f = h.few in record { small = h.small; few = omega arith; goes = h.goes }

pub few_emit : (e : Entry) → Small e → Few Any 1 (emit e)
few_emit e s = record { small = (s, tt); few = omega arith; goes = tt }

-- ---- cuts to 16 bits

pub signed_in : (z : ℤ) → Signed16 (i16 z)
signed_in z = by (i16 z) (to_z-Fits w16 (modulo z (2 ^ 16)) (record { fits = modulo_lt z (omega arith) }))
  where
    by : (x : ℤ) → SFits w16 x → Signed16 x
    by (pos n) f = let l = f.sfits in omega zarith
    by (negsuc n) f = let l = f.sfits in omega zarith

pub cut_in : (z : ℤ) → u16 z ≤ 65535
cut_in z = omega (arith, modulo_lt z {m = 2 ^ 16} (omega arith))

-- ---- address sums and loads

pub few_address : (p : ℕ) (o : ℤ) → Few (λ (a : ℕ). a < 2 ^ 64) 0 (source_address p o)
unfolding source_address
few_address p o =
    few_if (lt_z (pos p +ℤ o) (pos 0)) _ _ (λ _. few_stop _ verdict.Address)
    (λ _. few_if (ltb (up (pos p +ℤ o)) (2 ^ 64)) _ _ (λ e. few_yield _ (ltb-true (up (pos p +ℤ o)) (2 ^ 64) e)) (λ _. few_stop _ verdict.Address))

-- a load's numbers, for each of the four sizes
load_words : (siz uls lrs : ℕ) → siz ≤ 3 → lrs ≤ 65535 → words_of siz uls lrs ≤ 16384
load_words zero uls lrs h l = omega arith
load_words (suc zero) uls lrs h l = omega arith
load_words (suc (suc zero)) uls lrs h l = omega arith
load_words (suc (suc (suc zero))) uls lrs h l = omega arith
load_words (suc (suc (suc (suc n)))) uls lrs h l = absurd (omega arith)

load_stride : (siz width : ℕ) → siz ≤ 3 → width ≤ 65535 → stride_of siz width ≤ 524288
load_stride zero width h l = omega arith
load_stride (suc zero) width h l = omega arith
load_stride (suc (suc zero)) width h l = omega arith
load_stride (suc (suc (suc zero))) width h l = omega arith
load_stride (suc (suc (suc (suc n)))) width h l = absurd (omega arith)

few_request : (t : Bool) (words rows stride start len i uls ult lrs lrt : ℕ) → (t ≡ true → Small (entry.Load i uls ult lrs lrt words rows stride start len)) → Few Any 1 (load_out (pick t (record { words = words; rows = rows; stride = stride; start = start; length = len })) i uls ult lrs lrt)
unfolding load_out
few_request true words rows stride start len i uls ult lrs lrt h = record { small = (h refl, tt); few = omega arith; goes = tt }
few_request false words rows stride start len i uls ult lrs lrt h = record { small = tt; few = omega arith; goes = tt }

pub few_load : (siz width address i uls ult lrs lrt : ℕ) → siz ≤ 3 → width ≤ 65535 → i ≤ 7 → (uls ≤ 65535) × ((ult ≤ 65535) × ((lrs ≤ 65535) × (lrt ≤ 65535))) → Few Any 1 (load_tile siz width address i uls ult lrs lrt)
unfolding load_tile request_of
few_load siz width address i uls ult lrs lrt s w k b =
    let words = words_of siz uls lrs in
    let rows = rows_of ult lrt in
    let stride = stride_of siz width in
    let start = address + offset_of siz stride uls ult in
    let span = (rows - 1) * stride + 8 * words in
    let a : words ≤ 16384 = load_words siz uls lrs s b.1.1.0 in
    let c : rows ≤ 16384 = omega (arith, b.1.1.1) in
    let d : stride ≤ 524288 = load_stride siz width s w in
    few_request (granted start span) words rows stride start span i uls ult lrs lrt (λ e. (k, (b.0, (b.1.0, (b.1.1.0, (b.1.1.1, (a, (c, (d, ltb-true (start + span) (2 ^ 64) e)))))))))
