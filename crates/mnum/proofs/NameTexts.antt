-- SPDX-License-Identifier: Apache-2.0
-- When a text is a name, and that a name's characters are below 128.
use Rattle.mnum.proofs.NumWords.{ℕ, ◌≡◌, ◌<◌, ◌≤◌, true, List, [], ◌∷◌, length, get_or, drop, All, sym, subst, arith, All-nil, All-cons, All-head, All-tail}
use Rattle.mnum.proofs.NumWords.{nat_tests, AllAre, IsName, is_name_start, is_name_rest}

abbrev AllPass : List ℕ → Type 0
AllPass cs = All (λ c. is_name_rest c ≡ true) cs

all_are : (cs : List ℕ) → AllPass cs → AllAre is_name_rest cs
all_are [] all = tt
all_are (c ∷ cs) all = (All-head (λ c. is_name_rest c ≡ true) c cs all, all_are cs (All-tail (λ c. is_name_rest c ≡ true) c cs all))

are_all : (cs : List ℕ) → AllAre is_name_rest cs → AllPass cs
are_all [] all = All-nil (λ c. is_name_rest c ≡ true)
are_all (c ∷ cs) all = All-cons (λ c. is_name_rest c ≡ true) c cs all.0 (are_all cs all.1)

pub name_told : (s rest : List ℕ) → 0 < length s → length s ≤ 31 → is_name_start (get_or s 0 0) ≡ true → rest ≡ drop 1 s → (AllPass rest → IsName s) × (IsName s → AllPass rest)
name_told [] rest some few start is = absurd (omega arith)
name_told (c ∷ cs) rest some few start is = (
  λ all. (start, all_are cs (subst AllPass is all), omega arith),
  λ name. subst AllPass (sym is) (are_all cs name.1),
)

start_is_ascii : (c : ℕ) → is_name_start c ≡ true → c < 128
start_is_ascii c is = grind (arith, nat_tests, is)

rest_is_ascii : (c : ℕ) → is_name_rest c ≡ true → c < 128
rest_is_ascii c is = grind (arith, nat_tests, is)

rests_are_ascii : (cs : List ℕ) → AllAre is_name_rest cs → All (λ c. c < 128) cs
rests_are_ascii [] all = All-nil (λ c. c < 128)
rests_are_ascii (c ∷ cs) all = All-cons (λ c. c < 128) c cs (rest_is_ascii c all.0) (rests_are_ascii cs all.1)

pub name_is_ascii : (s : List ℕ) → IsName s → All (λ c. c < 128) s
name_is_ascii [] name = absurd name
name_is_ascii (c ∷ cs) name = All-cons (λ c. c < 128) c cs (start_is_ascii c name.0) (rests_are_ascii cs name.1)
