-- SPDX-License-Identifier: Apache-2.0
-- The text that bytes begin with.
use Rattle.mkey.proofs.KeyWords.{ℕ, ◌≡◌, ◌≢◌, ◌+◌, ◌-◌, ◌<◌, ◌≤◌, Option, Some, None, MatchOption, List, [], ◌∷◌, ◌++◌, map, length, get_or, drop, All, refl}
use Rattle.mkey.proofs.KeyWords.{sym, ◌∙◌, ap, subst, arith, append_assoc, append-nil, add-one, drop-cons, map-append, All-nil, All-cons, AllAre, IsName}
use Rattle.mkey.proofs.KeyWords.{is_name_rest, text_bytes, IsAscii, text_split, IsFront, BeginsWithNo, false, IsTrue, Text, rest_is_ascii, start_is_ascii}
use Rattle.std.proofs.Math.ListN.{drop_of_length-le}

-- each case of an option, told in other words
pub match_map : {A : Type 0} {P P' : Type 0} {Q Q' : A → Type 0} (o : Option A) → (P → P') → ((a : A) → Q a → Q' a) → MatchOption o P Q → MatchOption o P' Q'
match_map None f g h = f h
match_map (Some a) f g h = g a h

-- the bytes of a text, without the 0 after them
abbrev pub raised_text : Text → List ℕ
raised_text t = map (λ c. c + 1) t

ended : (t : Text) → text_bytes t ≡ raised_text t ++ 0 ∷ []
ended [] = refl
ended (c ∷ t) = ap (λ b. (c + 1) ∷ b) (ended t)

-- what is left from i on, if something is
next : (bytes : List ℕ) (i : ℕ) → i < length bytes → drop i bytes ≡ get_or bytes i 0 ∷ drop (i + 1) bytes
next bytes i inside = drop-cons bytes i 0 inside ∙ ap (λ n. get_or bytes i 0 ∷ drop n bytes) (sym (add-one i))

pub text_more : (bytes : List ℕ) (t : Text) (i : ℕ) → i < length bytes → get_or bytes i 0 ≢ 0 → bytes ≡ raised_text t ++ drop i bytes → bytes ≡ raised_text (t ++ (get_or bytes i 0 - 1) ∷ []) ++ drop (i + 1) bytes
text_more bytes t i inside some is =
    let byte : get_or bytes i 0 - 1 + 1 ≡ get_or bytes i 0 = omega arith in
    is ∙ ap (λ b. raised_text t ++ b) (next bytes i inside)
    ∙ sym (append_assoc (raised_text t) (get_or bytes i 0 ∷ []) (drop (i + 1) bytes))
    ∙ ap (λ b. (raised_text t ++ b ∷ []) ++ drop (i + 1) bytes) (sym byte)
    ∙ ap (λ b. b ++ drop (i + 1) bytes) (sym (map-append (λ c. c + 1) t ((get_or bytes i 0 - 1) ∷ [])))

pub text_found : (bytes : List ℕ) (t : Text) (i : ℕ) → i < length bytes → get_or bytes i 0 ≡ 0 → bytes ≡ raised_text t ++ drop i bytes → IsFront bytes (text_bytes t) (i + 1)
text_found bytes t i inside zero is = record {
  fits = omega arith;
  is = is ∙ ap (λ b. raised_text t ++ b) (next bytes i inside ∙ ap (λ b. b ∷ drop (i + 1) bytes) zero)
      ∙ sym (append_assoc (raised_text t) (0 ∷ []) (drop (i + 1) bytes))
      ∙ ap (λ b. b ++ drop (i + 1) bytes) (sym (ended t));
}

-- a text that bytes begin with, after what was read of it
record Rest (t s : Text) (tail rest : List ℕ) : Type 0 where
  more : Text
  text : s ≡ t ++ more
  bytes : tail ≡ text_bytes more ++ rest

next_same : (c d : ℕ) → c + 1 ≡ d + 1 → c ≡ d
next_same c d e = omega arith

text_rest : (t s : Text) (tail rest : List ℕ) → raised_text t ++ tail ≡ text_bytes s ++ rest → Rest t s tail rest
text_rest [] s tail rest e = record { more = s; text = refl; bytes = e }
text_rest (c ∷ t) [] tail rest e = let no : c + 1 ≡ 0 = cc in absurd (omega arith)
text_rest (c ∷ t) (d ∷ s) tail rest e =
    let first : c + 1 ≡ d + 1 = cc in
    let others : raised_text t ++ tail ≡ text_bytes s ++ rest = cc in
    let more = text_rest t s tail rest others in
    record { more = more.more; text = λ i. sym (next_same c d first) i ∷ more.text i; bytes = more.bytes }

-- a 0 ends what was read
pub text_other : (bytes : List ℕ) (t : Text) (i : ℕ) → i < length bytes → get_or bytes i 0 ≡ 0 → bytes ≡ raised_text t ++ drop i bytes → (All (λ c. c < 128) t → ⊥) → BeginsWithNo IsAscii text_bytes bytes
text_other bytes t i inside zero is other s rest ascii e = by_more found.more found.text found.bytes
  where
    found : Rest t s (0 ∷ drop (i + 1) bytes) rest
    found = text_rest t s (0 ∷ drop (i + 1) bytes) rest (ap (λ b. raised_text t ++ b) (sym (next bytes i inside ∙ ap (λ b. b ∷ drop (i + 1) bytes) zero)) ∙ sym is ∙ e)

    by_more : (more : Text) → s ≡ t ++ more → 0 ∷ drop (i + 1) bytes ≡ text_bytes more ++ rest → ⊥
    by_more [] text bytes' = other (subst (All (λ c. c < 128)) (text ∙ append-nil t) ascii)
    by_more (c ∷ more) text bytes' = let no : c + 1 ≡ 0 = cc in absurd (omega arith)

-- without a 0 there is no text
pub text_open : (bytes : List ℕ) (t : Text) (i : ℕ) → length bytes ≤ i → bytes ≡ raised_text t ++ drop i bytes → BeginsWithNo IsAscii text_bytes bytes
text_open bytes t i end is s rest ascii e = by_more found.more found.bytes
  where
    found : Rest t s [] rest
    found = text_rest t s [] rest (ap (λ b. raised_text t ++ b) (sym (drop_of_length-le bytes end)) ∙ sym is ∙ e)

    by_more : (more : Text) → [] ≡ text_bytes more ++ rest → ⊥
    by_more [] bytes' = absurd (cc)
    by_more (c ∷ more) bytes' = absurd (cc)

-- ---- names

pub not_so : IsTrue false → ⊥
not_so h = absurd (cc)

-- a text that is found in front, and is none of those that are sought
pub other_found : (P : Text → Type 0) (bytes : List ℕ) (t : Text) (n : ℕ) → IsFront bytes (text_bytes t) n → (P t → ⊥) → BeginsWithNo P text_bytes bytes
other_found P bytes t n front other s rest is e = other (subst P (text_split s t rest (drop n bytes) (sym e ∙ front.is)).0 is)

words_ascii : (cs : Text) → AllAre is_name_rest cs → IsAscii cs
words_ascii [] all = All-nil (λ c. c < 128)
words_ascii (c ∷ cs) all = All-cons (λ c. c < 128) c cs (rest_is_ascii c all.0) (words_ascii cs all.1)

name_ascii : (s : Text) → IsName s → IsAscii s
name_ascii [] name = absurd name
name_ascii (c ∷ cs) name = All-cons (λ c. c < 128) c cs (start_is_ascii c name.0) (words_ascii cs name.1)

-- bytes that begin with no text begin with no name
pub no_name : (bytes : List ℕ) → BeginsWithNo IsAscii text_bytes bytes → BeginsWithNo IsName text_bytes bytes
no_name bytes none s rest name e = none s rest (name_ascii s name) e
