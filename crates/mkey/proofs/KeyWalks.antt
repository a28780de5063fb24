-- SPDX-License-Identifier: Apache-2.0
-- Where the subscripts of a key begin.
use Rattle.mkey.proofs.KeyWords.{ℕ, ◌≡◌, ◌+◌, ◌-◌, ◌<◌, Bool, true, cond, not, Option, Some, None, MatchOption, List, [], ◌∷◌, ◌++◌, length, take, drop, All}
use Rattle.mkey.proofs.KeyWords.{refl, sym, ◌∙◌, ap, subst, arith, append_assoc, append-nil, length-append, take-append_seam, drop-append_seam, nat_tests}
use Rattle.mkey.proofs.KeyWords.{flat_map-append, All-head, All-tail, All-nil, All-cons, position, position_or_len, text_bytes, subscript_bytes}
use Rattle.mkey.proofs.KeyWords.{subscripts_bytes, local_bytes, key_bytes, IsSubscript, IsAscii, IsAccountName, IsStored, IsName, canonical_value}
use Rattle.mkey.proofs.KeyWords.{significant_digits, tag_of, IsParent, IsLastAt, ◌==◌, false, nat_lt, Text, Node}

-- ---- texts

abbrev pub is_zero : ℕ → Bool
is_zero b = b == 0

not_zero : (c : ℕ) → (c + 1 == 0) ≡ false
not_zero c = grind (arith, nat_tests)

zero_len : (s rest : List ℕ) → position_or_len is_zero (text_bytes s ++ rest) ≡ length s
zero_len [] rest = refl
zero_len (c ∷ s) rest =
    ap (λ b. cond (not b) (1 + position_or_len is_zero (text_bytes s ++ rest)) 0) (not_zero c) ∙ ap (λ n. 1 + n) (zero_len s rest) ∙ omega arith

pub length-text_bytes : (s : List ℕ) → length (text_bytes s) ≡ length s + 1
length-text_bytes [] = refl
length-text_bytes (c ∷ s) = let rest = length-text_bytes s in omega (arith, rest)

zero_inside : (n m : ℕ) → n < m → cond (nat_lt n m) (Some n) None ≡ Some n
zero_inside n m inside = let is : nat_lt n m ≡ true = grind (arith, nat_tests, inside) in ap (λ b. cond b (Some n) None) is

-- the first 0 ends the text
pub zero_at : (s rest : List ℕ) → position is_zero (text_bytes s ++ rest) ≡ Some (length s)
zero_at s rest =
    ap (λ n. cond (nat_lt n (length (text_bytes s ++ rest))) (Some n) None) (zero_len s rest)
    ∙ zero_inside (length s) (length (text_bytes s ++ rest)) (omega (arith, length-append (text_bytes s) rest, length-text_bytes s))

-- ---- nodes

abbrev pub with_subs : Node → List Text → Node
with_subs n xs = record { account = n.account; name = n.name; subscripts = xs }

-- the key of a node with more subscripts
pub key_of_more : (n : Node) (xs ys : List Text) → key_bytes significant_digits (with_subs n (xs ++ ys)) ≡ key_bytes significant_digits (with_subs n xs) ++ subscripts_bytes significant_digits ys
key_of_more n xs ys =
    ap (λ b. text_bytes n.account ++ (text_bytes n.name ++ b)) (flat_map-append (subscript_bytes significant_digits) xs ys)
    ∙ ap (λ b. text_bytes n.account ++ b) (sym (append_assoc (text_bytes n.name) (subscripts_bytes significant_digits xs) (subscripts_bytes significant_digits ys)))
    ∙ sym (append_assoc (text_bytes n.account) (local_bytes significant_digits n.name xs) (subscripts_bytes significant_digits ys))

-- how far the subscripts of a key were gone over: these are passed, and `last` is where the last of them begins
pub record Walked (n : Node) (bytes rest : List ℕ) (last : Option ℕ) : Type 0 where
  pub passed : List Text
  pub more : List Text
  pub subscripts : n.subscripts ≡ passed ++ more
  pub behind : rest ≡ subscripts_bytes significant_digits more
  pub at : MatchOption last (passed ≡ []) (IsLastAt (with_subs n passed) bytes)

no_bytes : (s : Text) (more : List ℕ) → subscript_bytes significant_digits s ++ more ≡ [] → ⊥
no_bytes s more e =
    let tag = tag_of s (canonical_value significant_digits s) in
    let no : tag.tag ∷ (tag.rest ++ more) ≡ [] = ap (λ b. b ++ more) (sym tag.is) ∙ e in
    absurd (cc)

-- one subscript more is passed
pub walk_on : (n : Node) (bytes rest : List ℕ) (last : Option ℕ) (len : ℕ) → key_bytes significant_digits n ≡ bytes → 0 < length rest → Walked n bytes rest last
    → ((s more : List ℕ) → rest ≡ subscript_bytes significant_digits s ++ more → len ≡ length (subscript_bytes significant_digits s))
    → Walked n bytes (drop len rest) (Some (length bytes - length rest))
walk_on n bytes rest last len is some walked long = by_more walked.more walked.subscripts walked.behind
  where
    by_more : (more : List Text) → n.subscripts ≡ walked.passed ++ more → rest ≡ subscripts_bytes significant_digits more → Walked n bytes (drop len rest) (Some (length bytes - length rest))
    by_more [] list e = let no : ⊥ = omega (arith, some, ap length e) in absurd no
    by_more (s ∷ more) list e = record {
      passed = walked.passed ++ s ∷ [];
      more = more;
      subscripts = list ∙ sym (append_assoc walked.passed (s ∷ []) more);
      behind = ap (λ k. drop k rest) (long s (subscripts_bytes significant_digits more) e)
          ∙ ap (drop (length (subscript_bytes significant_digits s))) e
          ∙ drop-append_seam (subscript_bytes significant_digits s) (subscripts_bytes significant_digits more);
      at = (with_subs n walked.passed, record { account = refl; name = refl; longer = (s, refl) }, its_key);
    }
      where
        whole : bytes ≡ key_bytes significant_digits (with_subs n walked.passed) ++ rest
        whole =
            sym is ∙ ap (λ xs. key_bytes significant_digits (with_subs n xs)) list ∙ key_of_more n walked.passed (s ∷ more)
            ∙ ap (λ b. key_bytes significant_digits (with_subs n walked.passed) ++ b) (sym e)

        begins : length bytes - length rest ≡ length (key_bytes significant_digits (with_subs n walked.passed))
        begins = omega (arith, ap length whole, length-append (key_bytes significant_digits (with_subs n walked.passed)) rest)

        its_key : key_bytes significant_digits (with_subs n walked.passed) ≡ take (length bytes - length rest) bytes
        its_key =
            sym (take-append_seam (key_bytes significant_digits (with_subs n walked.passed)) rest)
            ∙ ap (λ k. take k (key_bytes significant_digits (with_subs n walked.passed) ++ rest)) (sym begins) ∙ ap (take (length bytes - length rest)) (sym whole)

pub walk_ends : (n : Node) (bytes rest : List ℕ) (last : Option ℕ) → length rest ≡ 0 → Walked n bytes rest last → MatchOption last (n.subscripts ≡ []) (IsLastAt n bytes)
walk_ends n bytes rest last none walked = by_more walked.more walked.subscripts walked.behind
  where
    by_last : (last : Option ℕ) → n.subscripts ≡ walked.passed → MatchOption last (walked.passed ≡ []) (IsLastAt (with_subs n walked.passed) bytes) → MatchOption last (n.subscripts ≡ []) (IsLastAt n bytes)
    by_last None same at = same ∙ at
    by_last (Some start) same (above, parent, key) = (above, record { account = parent.account; name = parent.name; longer = (parent.longer.0, same ∙ parent.longer.1) }, key)

    by_more : (more : List Text) → n.subscripts ≡ walked.passed ++ more → rest ≡ subscripts_bytes significant_digits more → MatchOption last (n.subscripts ≡ []) (IsLastAt n bytes)
    by_more [] list e = by_last last (list ∙ append-nil walked.passed) walked.at
    by_more (s ∷ more) list e = absurd (no_bytes s (subscripts_bytes significant_digits more) (sym e ∙ no_elements rest none))
      where
        no_elements : (xs : List ℕ) → length xs ≡ 0 → xs ≡ []
        no_elements [] e = refl
        no_elements (x ∷ xs) e = absurd (omega (arith, e))

-- ---- the node above

All-front : {X : Type 0} (P : X → Type 0) (xs ys : List X) → All P (xs ++ ys) → All P xs
All-front P [] ys all = All-nil P
All-front P (x ∷ xs) ys all = All-cons P x xs (All-head P x (xs ++ ys) all) (All-front P xs ys (All-tail P x (xs ++ ys) all))

pub parent_stored : (above n : Node) → IsParent above n → IsStored n → IsStored above
parent_stored above n parent stored =
    let longer = parent.longer in
    record {
      account = subst IsAccountName (sym parent.account) stored.account;
      name = subst IsName (sym parent.name) stored.name;
      subscripts = record {
        few = omega (arith, stored.subscripts.few, ap length longer.1, length-append above.subscripts (longer.0 ∷ []));
        each = All-front IsSubscript above.subscripts (longer.0 ∷ []) (subst (All IsSubscript) longer.1 stored.subscripts.each);
      };
      ascii = All-front IsAscii above.subscripts (longer.0 ∷ []) (subst (All IsAscii) longer.1 stored.ascii);
    }
