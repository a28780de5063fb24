-- SPDX-License-Identifier: Apache-2.0
-- Lists of subscripts, and nodes, that bytes are.
use Rattle.mkey.proofs.KeyWords.{ℕ, ◌≡◌, ◌<◌, List, [], ◌∷◌, ◌++◌, length, drop, All, sym, ◌∙◌, ap, subst, arith, append_assoc, append-nil, length-append}
use Rattle.mkey.proofs.KeyWords.{flat_map-append, All-head, All-tail, IsName, text_bytes, subscript_bytes, subscripts_bytes, local_bytes, key_bytes}
use Rattle.mkey.proofs.KeyWords.{IsSubscript, IsAscii, IsAccountName, IsStored, NoneEmpty, IsBehind, subscripts_split, text_split, IsFront, BeginsWithNo, IsSub}
use Rattle.mkey.proofs.KeyWords.{AreSubs, IsKeyBy, Text, Node}

-- ---- subscripts

some_each : (xs : List Text) → All IsSub xs → NoneEmpty xs
some_each xs all = λ k d inside. (all k d inside).0.some

-- none of a store's is empty
pub some_all : (ys : List Text) → AreSubs ys → NoneEmpty ys
some_all ys all = λ k d inside. (all.0.each k d inside).some

-- what holds of each of a list holds of each of its end
All-drop-back : {X : Type 0} (P : X → Type 0) (xs ys : List X) → All P (xs ++ ys) → All P ys
All-drop-back P [] ys all = all
All-drop-back P (x ∷ xs) ys all = All-drop-back P xs ys (All-tail P x (xs ++ ys) all)

-- the subscript after others is one too
pub sub_behind : (xs ys : List Text) (s : Text) (more : List Text) → AreSubs ys → ys ≡ xs ++ (s ∷ more) → IsSub s
sub_behind xs ys s more all e =
    let each : All IsSubscript (s ∷ more) = All-drop-back IsSubscript xs (s ∷ more) (subst (All IsSubscript) e all.0.each) in
    let ascii : All IsAscii (s ∷ more) = All-drop-back IsAscii xs (s ∷ more) (subst (All IsAscii) e all.1) in
    (All-head IsSubscript s more each, All-head IsAscii s more ascii)

-- subscripts that were read, and something after them
module _ (kept : ℕ) (xs ys : List Text) (rest bytes : List ℕ) (subs : All IsSub xs) (all : AreSubs ys) (is : bytes ≡ subscripts_bytes kept xs ++ rest) (e : bytes ≡ subscripts_bytes kept ys) (some : 0 < length rest) where
  -- one more subscript begins there
  one_behind : ((s : Text) (more : List Text) → ys ≡ xs ++ s ∷ more → rest ≡ subscripts_bytes kept (s ∷ more) → ⊥) → ⊥
  one_behind none = by_more behind.more behind.subscripts behind.bytes
    where
      behind : IsBehind kept xs rest ys
      behind = subscripts_split kept xs ys rest (some_each xs subs) (some_all ys all) (sym is ∙ e)

      by_more : (more : List Text) → ys ≡ xs ++ more → rest ≡ subscripts_bytes kept more → ⊥
      by_more [] list rest_is = omega (arith, some, ap length rest_is)
      by_more (s ∷ more) list rest_is = none s more list rest_is

  pub too_many_subs : length xs ≡ 15 → ⊥
  too_many_subs full = one_behind (λ s more list rest_is. omega (arith, ap length list, length-append xs (s ∷ more), all.0.few))

  pub no_more_subs : BeginsWithNo IsSub (subscript_bytes kept) rest → ⊥
  no_more_subs none = one_behind (λ s more list rest_is. none s (subscripts_bytes kept more) (sub_behind xs ys s more all list) rest_is)

pub one_more_sub : (kept : ℕ) (xs : List Text) (s : Text) (rest bytes : List ℕ) (n : ℕ) → bytes ≡ subscripts_bytes kept xs ++ rest → IsFront rest (subscript_bytes kept s) n → bytes ≡ subscripts_bytes kept (xs ++ s ∷ []) ++ drop n rest
one_more_sub kept xs s rest bytes n is front =
    is ∙ ap (λ b. subscripts_bytes kept xs ++ b) front.is
    ∙ sym (append_assoc (subscripts_bytes kept xs) (subscript_bytes kept s) (drop n rest))
    ∙ ap (λ b. (subscripts_bytes kept xs ++ b) ++ drop n rest) (sym (append-nil (subscript_bytes kept s)))
    ∙ ap (λ b. b ++ drop n rest) (sym (flat_map-append (subscript_bytes kept) xs (s ∷ [])))

-- ---- nodes

-- the names in front of bytes are those of each node whose key they are
module _ (kept : ℕ) (bytes : List ℕ) (account : Text) (count : ℕ) (front : IsFront bytes (text_bytes account) count) where
  same_account : (n : Node) → key_bytes kept n ≡ bytes → (n.account ≡ account) × (local_bytes kept n.name n.subscripts ≡ drop count bytes)
  same_account n e = text_split n.account account (local_bytes kept n.name n.subscripts) (drop count bytes) (e ∙ front.is)

  pub no_such_name : (local : List ℕ) → local ≡ drop count bytes → BeginsWithNo IsName text_bytes local → (n : Node) → IsStored n → key_bytes kept n ≡ bytes → ⊥
  no_such_name local is none n stored e = none n.name (subscripts_bytes kept n.subscripts) stored.name (is ∙ sym (same_account n e).1)

  module _ (local : List ℕ) (is_local : local ≡ drop count bytes) (name : Text) (count' : ℕ) (front' : IsFront local (text_bytes name) count') where
    same_name : (n : Node) → key_bytes kept n ≡ bytes → (n.name ≡ name) × (subscripts_bytes kept n.subscripts ≡ drop count' local)
    same_name n e = text_split n.name name (subscripts_bytes kept n.subscripts) (drop count' local) ((same_account n e).1 ∙ sym is_local ∙ front'.is)

    pub no_such_subs : (rest : List ℕ) → rest ≡ drop count' local → ((ys : List Text) → AreSubs ys → rest ≡ subscripts_bytes kept ys → ⊥) → (n : Node) → IsStored n → key_bytes kept n ≡ bytes → ⊥
    no_such_subs rest is none n stored e = none n.subscripts (stored.subscripts, stored.ascii) (is ∙ sym (same_name n e).1)

    pub node_found : (rest : List ℕ) (subs : List Text) → rest ≡ drop count' local → AreSubs subs → rest ≡ subscripts_bytes kept subs → IsAccountName account → IsName name → IsKeyBy kept (record { account = account; name = name; subscripts = subs }) bytes
    node_found rest subs is all is_subs is_account is_name = (
      record { account = is_account; name = is_name; subscripts = all.0; ascii = all.1 },
      ap (λ b. text_bytes account ++ (text_bytes name ++ b)) (sym is_subs ∙ is) ∙ ap (λ b. text_bytes account ++ b) (sym front'.is ∙ is_local) ∙ sym front.is,
    )
