-- SPDX-License-Identifier: Apache-2.0
-- Whether a text matches a pattern, as tests that compute.
--
-- Restates "Pattern match pattern" of ISO/IEC 11756:1999 as Pattern does, by trying every way of cutting the text into
-- segments and every number of copies.
use Rattle.std.specs.Prelude.{ℕ, zero, suc, ◌+◌, min, Bool, true, not, ◌&&◌, ◌||◌, ◌==◌, nat_le, nat_eq, List, [], ◌∷◌, length, take, drop, Option, Some, None}
use Rattle.std.specs.List.{list_all}
use Rattle.std.specs.Cmp.Lexicographic.{pointwise}
use Rattle.mspec.specs.Pattern.{is_in_any, Count, Repeated, members, copies, passing, copied, Atom}

-- ---- counts

abbrev pub is_at_most : Option ℕ → ℕ → Bool
is_at_most None n = true
is_at_most (Some most) n = nat_le n most

abbrev pub is_permitted : Count → ℕ → Bool
is_permitted count n = nat_le count.least n && is_at_most count.most n

-- the greatest count is below the least
abbrev pub is_reversed : Count → Bool
is_reversed count = not (is_at_most count.most count.least)

-- ---- matching

-- some number up to n passes the test
abbrev pub any_up_to : ℕ → (ℕ → Bool) → Bool
any_up_to zero test = test 0
any_up_to (suc n) test = any_up_to n test || test (suc n)

-- a joining of this many texts, each of which passes the test
abbrev pub is_joined : (List ℕ → Bool) → ℕ → List ℕ → Bool
is_joined test zero text = length text == 0
is_joined test (suc n) text = any_up_to (length text) (λ k. is_joined test n (take k text) && test (drop k text))

-- A text that is not empty holds at most as many copies of a string as it has characters, and as many texts that are not empty; of those
-- that are, the least number is as good as any.
abbrev pub is_repetition : Count → Repeated → List ℕ → Bool
is_repetition count (members codes) text = list_all (is_in_any codes) text && is_permitted count (length text)
is_repetition count (copies string) text =
    any_up_to (count.least + length text) (λ n. is_permitted count n && pointwise nat_eq text (copied n string))
is_repetition count (passing test) text =
    any_up_to (count.least + length text) (λ n. is_permitted count n && is_joined test n text)

abbrev pub is_match : List Atom → List ℕ → Bool
is_match [] text = length text == 0
is_match (atom ∷ atoms) text =
    any_up_to (length text) (λ n. is_repetition atom.count atom.repeated (take n text) && is_match atoms (drop n text))

-- ---- turns

-- as many as there are, if no more than the greatest count
abbrev pub at_most : Option ℕ → ℕ → ℕ
at_most None n = n
at_most (Some most) n = min most n

-- the greatest number of texts that an atom has to join, of a text with this many characters
abbrev pub turns : Count → ℕ → ℕ
turns count characters = at_most count.most (count.least + characters)
