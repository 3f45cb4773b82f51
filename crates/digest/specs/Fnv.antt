-- 64-bit FNV-1a over words: for each of a word's eight bytes, the highest first, exclusive or and then the product with the prime, modulo 2^64.
-- Assumes nothing.
use Rattle.std.specs.Prelude.{ℕ, zero, suc, ◌*◌, ◌/◌, ◌%◌, ◌^◌, List, [], ◌∷◌, bit_xor}

abbrev pub basis : ℕ
basis = 0xcbf29ce484222325

abbrev pub prime : ℕ
prime = 0x100000001b3

unfoldable pub fnv1a : (hash byte : ℕ) → ℕ
fnv1a h b = bit_xor h b * prime % 2 ^ 64

-- the low n bytes of a word
unfoldable pub word_into : (n word hash : ℕ) → ℕ
word_into zero w h = h
word_into (suc n) w h = word_into n w (fnv1a h (w / 2 ^ (8 * n) % 256))

unfoldable pub digest_from : ℕ → List ℕ → ℕ
digest_from h [] = h
digest_from h (w ∷ ws) = digest_from (word_into 8 w h) ws

abbrev pub digest_of : List ℕ → ℕ
digest_of ws = digest_from basis ws
