-- SPDX-License-Identifier: Apache-2.0
-- What the calls of a map leave of the texts that are kept.
use Rattle.mcache.proofs.CacheWords.{arith, ◌≡◌, ◌≢◌, ◌⊎◌, ℕ, ◌+◌, ◌<◌, length, slice_index_or, Bool, true, false, List, [], ◌∷◌, ◌++◌, Option, Some, Vec}
use Rattle.mcache.proofs.CacheWords.{Contains, Result, IfOk, IfSome, nat_eq, refl, sym, ap, ◌∙◌, subst, inl, inr, Global, false_from_ne_true, Contains-push}
use Rattle.mcache.proofs.CacheWords.{Contains-append_left, pointwise, same_text, bytes_decides, IsDistinct, AllByRecursion, starts_with, keys_of, lookup}
use Rattle.mcache.proofs.CacheWords.{remove_entry, result_ok, LruCache, promoted, put_entries, Contains-lookup, Contains-promoted, Contains-put_entries}
use Rattle.mcache.proofs.CacheWords.{Contains-remove_entry, Text, IsAt, IsKeptAt, IsIn, IsInOr, IsAmong, AreKeysOf}
use borrow.Author.Count.{below_more}
use Rattle.lru.proofs.Splits.{Contains-cons, Contains-nil}
use Rattle.mcache.specs.NodeTexts.{Entry}

abbrev is_at : List ℕ → Vec ℕ Global → Bool
is_at bytes k = pointwise nat_eq bytes k.items

abbrev same_key : Vec ℕ Global → Vec ℕ Global → Bool
same_key k = is_at k.items

-- ---- a look-up

-- what is found at a key is kept at it
kept_at : (es : List Entry) (bytes : List ℕ) (text : Text) → lookup (is_at bytes) es ≡ Some text → IsKeptAt es bytes text
kept_at es bytes text h =
    let at = Contains-lookup (is_at bytes) es text h in
    ((at.0, text), at.1, (sym (same_text bytes at.0.items (sym at.2)), refl))

copied : {E : Type 0} (P : Text → Type 0) (text : Text) (r : Result Text E) (o : Option Text) → IfOk r (λ copy. copy ≡ text) → o ≡ result_ok r → P text → IfSome o P
copied P text r o h e f = grind arith

pub found : {E : Type 0} (es : List Entry) (bytes : List ℕ) (text : Text) (r : Result Text E) (o : Option Text) → Some text ≡ lookup (is_at bytes) es → IfOk r (λ copy. copy ≡ text) → o ≡ result_ok r → IfSome o (IsKeptAt es bytes)
found es bytes text r o at same is = copied (IsKeptAt es bytes) text r o same is (kept_at es bytes text (sym at))

-- a look-up changes the order alone
pub looked : (es : List Entry) (bytes : List ℕ) (after : List Entry) → after ≡ promoted (is_at bytes) es → IsIn after es
looked es bytes after is e c = Contains-promoted (is_at bytes) es e (subst (λ l. Contains l e) is c)

-- ---- a text that is kept

is_put : (bytes : List ℕ) (text : Text) (key : Vec ℕ Global) (held : Text) (e : Entry) → key.items ≡ bytes → held ≡ text → e.1 ≡ held → (e.0 ≡ key) ⊎ (same_key key e.0 ≡ true) → IsAt bytes text e
is_put bytes text key held e k h v (inl same) = (ap (λ x. x.items) same ∙ k, v ∙ h)
is_put bytes text key held e k h v (inr equal) = (sym (same_text key.items e.0.items (sym equal)) ∙ k, v ∙ h)

pub put_in : (c : LruCache (Vec ℕ Global) Text) (bytes : List ℕ) (text : Text) (key : Vec ℕ Global) (held : Text) → key.items ≡ bytes → held ≡ text → IsInOr (put_entries same_key c key held) c.entries bytes text
put_in c bytes text key held k h e at = elim (Contains-put_entries same_key c key held e at) [
  | inl old ↦ inl old
  | inr p ↦ inr (is_put bytes text key held e k h p.0 (elim p.1 [
    | inl same ↦ inl same
    | inr other ↦ inr other.2
  ]))
]

-- ---- a key that is forgotten

among_keys : (P : Vec ℕ Global → Type 0) (es : List Entry) (e : Entry) → AllByRecursion P (keys_of es) → Contains es e → P e.0
among_keys P [] e all c = absurd (Contains-nil e c)
among_keys P (f ∷ es) e all c = elim (Contains-cons f es e c) [
  | inl same ↦ subst (λ x. P x.0) same all.0
  | inr on ↦ among_keys P es e all.1 on
]

no_more : (bytes : List ℕ) (es : List Entry) → IsDistinct same_key (keys_of es) → (e : Entry) → Contains (remove_entry (is_at bytes) es) e → is_at bytes e.0 ≡ false
unfolding IsDistinct
no_more bytes [] distinct e c = absurd (Contains-nil e c)
no_more bytes (f ∷ es) distinct e c = (elim (is_at bytes f.0) as (λ t. is_at bytes f.0 ≡ t → is_at bytes e.0 ≡ false) [
  | true ↦ λ t.
      let other : same_key f.0 e.0 ≡ false = among_keys (λ k. same_key f.0 k ≡ false) es e distinct.0 (rw t at c) in
      ap (λ b. pointwise nat_eq b e.0.items) (same_text bytes f.0.items (sym t)) ∙ other
  | false ↦ λ t. elim (Contains-cons f (remove_entry (is_at bytes) es) e (rw t at c)) [
    | inl same ↦ subst (λ x. is_at bytes x.0 ≡ false) same t
    | inr on ↦ no_more bytes es distinct.1 e on
  ]
]) refl

pub forgotten : (bytes : List ℕ) (es : List Entry) → IsDistinct same_key (keys_of es) → (e : Entry) → Contains (remove_entry (is_at bytes) es) e → e.0.items ≢ bytes
forgotten bytes es distinct e c same =
    let is : is_at bytes e.0 ≡ true = (bytes_decides bytes e.0.items).1 (sym same) in
    let not : is_at bytes e.0 ≡ false = no_more bytes es distinct e c in
    cc

pub left : (bytes : List ℕ) (es after : List Entry) → after ≡ remove_entry (is_at bytes) es → IsIn after es
left bytes es after is e c = Contains-remove_entry (is_at bytes) es e (subst (λ l. Contains l e) is c)

-- ---- the keys that begin with one

-- of the entries seen so far each key that begins with it is noted; the others are ahead
abbrev pub Noted : List Entry → List ℕ → List (Vec ℕ Global) → List Entry → Type 0
Noted es front keys ahead = (e : Entry) → Contains es e → starts_with nat_eq e.0.items front ≡ true → IsAmong keys e.0.items ⊎ Contains ahead e

module _ (es : List Entry) (front : List ℕ) (keys : List (Vec ℕ Global)) where
  pub noted_none : (ahead : List Entry) → ahead ≡ es → Noted es front keys ahead
  noted_none ahead is e c begins = inr (subst (λ l. Contains l e) (sym is) c)

  pub noted_all : (ahead : List Entry) → ahead ≡ [] → Noted es front keys ahead → AreKeysOf es front keys
  noted_all ahead is noted e c begins = grind arith

  module _ (ahead rest : List Entry) (f : Entry) (is : ahead ≡ f ∷ rest) (noted : Noted es front keys ahead) where
    pub noted_more : (key : Vec ℕ Global) (more : List (Vec ℕ Global)) → key.items ≡ f.0.items → more ≡ keys ++ key ∷ [] → Noted es front more rest
    noted_more key more same new e c begins = elim (noted e c begins) [
      | inl among ↦ inl (among.0, subst (λ l. Contains l among.0) (sym new) (Contains-append_left keys (key ∷ []) among.0 among.1), among.2)
      | inr on ↦ elim (Contains-cons f rest e (subst (λ l. Contains l e) is on)) [
        | inl it ↦ inl (key, subst (λ l. Contains l key) (sym new) (Contains-push keys key), same ∙ ap (λ x. x.0.items) it)
        | inr later ↦ inr later
      ]
    ]

    pub noted_passed : starts_with nat_eq f.0.items front ≡ false → Noted es front keys rest
    noted_passed not e c begins = elim (noted e c begins) [
      | inl among ↦ inl among
      | inr on ↦ elim (Contains-cons f rest e (subst (λ l. Contains l e) is on)) [
        | inl it ↦ let no : starts_with nat_eq e.0.items front ≡ false = subst (λ x. starts_with nat_eq x.0.items front ≡ false) it not in cc
        | inr later ↦ inr later
      ]
    ]

-- ---- the keys that are forgotten one by one

-- nothing is kept at the first n of the keys
abbrev pub AreGone : List Entry → List (Vec ℕ Global) → ℕ → Type 0
AreGone es keys n = (k : ℕ) → k < n → (d : Vec ℕ Global) (e : Entry) → Contains es e → e.0.items ≢ (slice_index_or keys k d).items

pub gone_more : (before after : List Entry) (keys : List (Vec ℕ Global)) (n : ℕ) (key : Vec ℕ Global) → ((d : Vec ℕ Global) → slice_index_or keys n d ≡ key) → IsIn after before → ((e : Entry) → Contains after e → e.0.items ≢ key.items) → AreGone before keys n → AreGone after keys (n + 1)
gone_more before after keys n key at in_before not gone =
    below_more (λ k. (d : Vec ℕ Global) (e : Entry) → Contains after e → e.0.items ≢ (slice_index_or keys k d).items) n
    (λ k less d e c. gone k less d e (in_before e c))
    (λ d e c same. not e c (same ∙ ap (λ x. x.items) (at d)))

-- once it is so of all keys, what is kept does not begin with that one
pub none_below : (es before : List Entry) (front : List ℕ) (keys : List (Vec ℕ Global)) (n : ℕ) → n ≡ length keys → AreKeysOf before front keys → IsIn es before → AreGone es keys n → (e : Entry) → Contains es e → starts_with nat_eq e.0.items front ≡ false
none_below es before front keys n all are in_before gone e c = false_from_ne_true (starts_with nat_eq e.0.items front) (λ begins.
    let among = are e (in_before e c) begins in
    gone among.1.0 (subst (λ m. among.1.0 < m) (sym all) among.1.1) among.0 e c (sym (ap (λ x. x.items) among.1.2 ∙ among.2)))
