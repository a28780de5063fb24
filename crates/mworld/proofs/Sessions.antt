-- SPDX-License-Identifier: Apache-2.0
-- The sessions of a world, while a line changes its terminal's where it is.
use Rattle.mworld.proofs.WorldWords.{◌≡◌, ℕ, Bool, true, false, Option, Some, None, cond, refl, sym, ap, ◌∙◌, IsSome, is_some, nat_eq, option_map, unwrap_or}
use Rattle.mworld.proofs.WorldWords.{nat_cmp, is_eq, FinMap, get, insert, remove, get-insert, get-remove, same_map, nat_cmp-IsAntisymmetric, new_session}
use Rattle.mworld.proofs.WorldWords.{session_or_new, Session, session_of}
use Rattle.std.specs.Cmp.{nat_cmp_total, unsigned_ties}
use Rattle.std.proofs.lemmas.Cmp.{eq_by_cmp_equiv}
use Rattle.std.specs.HashMap as hash
use Rattle.std.specs.HashMap.{HashMap, WritesThrough}
use Rattle.mspec.specs.Maps.{hash_map_of}
use Rattle.mspec.proofs.HashMaps.{get-hash_map_of, insert-hash_map_of, remove-hash_map_of}
use Rattle.mspec.proofs.Maps.{insert-remove}
use Rattle.mspec.proofs.MapCuts.{equal_of}
use Rattle.mmeaning.specs.Transition as transition

-- ---- of finite maps alone

module _ {V : Type 0} (m : FinMap nat_cmp V) (k : ℕ) where
  twice : (b : Bool) (v o : Option V) → cond b None (cond b v o) ≡ cond b None o
  twice true v o = refl
  twice false v o = refl

  -- what is put at a key is taken away with what was there
  pub remove-insert : (v : V) → remove (insert m k v) k ≡ remove m k
  remove-insert v = same_map nat_cmp_total nat_cmp-IsAntisymmetric _ _ (λ q.
      get-remove nat_cmp_total (insert m k v) k q ∙ ap (cond (is_eq (nat_cmp q k)) None) (get-insert nat_cmp_total m k v q)
      ∙ twice (is_eq (nat_cmp q k)) (Some v) (get m q) ∙ sym (get-remove nat_cmp_total m k q))

  -- if there is nothing, nothing is taken away
  pub remove-none : get m k ≡ None → remove m k ≡ m
  remove-none e = same_map nat_cmp_total nat_cmp-IsAntisymmetric _ _ (λ q. get-remove nat_cmp_total m k q ∙ by_test q (is_eq (nat_cmp q k)) (λ is. nat_cmp-IsAntisymmetric q k (equal_of (nat_cmp q k) is)))
    where
      by_test : (q : ℕ) (b : Bool) → (b ≡ true → q ≡ k) → cond b None (get m q) ≡ get m q
      by_test q true same = sym (ap (get m) (same refl) ∙ e)
      by_test q false same = refl

  pub get-inserted : (v : V) → get (insert m k v) k ≡ Some v
  get-inserted v = get-insert nat_cmp_total m k v k ∙ ap (λ b. cond b (Some v) (get m k)) ((eq_by_cmp_equiv nat_cmp_total).refl k)

-- ---- of the map that holds the sessions

module _ {H : Type 0} (m : HashMap ℕ Session H) where
  held_at : (t : ℕ) → get (hash_map_of {R = nat_cmp} session_of m) t ≡ option_map session_of (hash.get nat_eq m t)
  held_at t = get-hash_map_of nat_cmp_total nat_eq unsigned_ties session_of m t

  put_at : (n : HashMap ℕ Session H) (t : ℕ) (s : Session) → hash.Updates nat_eq m n t (Some s) → hash_map_of {R = nat_cmp} session_of n ≡ insert (hash_map_of session_of m) t (session_of s)
  put_at n t s u = insert-hash_map_of nat_cmp_total nat_eq unsigned_ties session_of nat_cmp-IsAntisymmetric m n t s u

  pub taken_away : (n : HashMap ℕ Session H) (t : ℕ) → hash.Updates nat_eq m n t None → hash_map_of {R = nat_cmp} session_of n ≡ remove (hash_map_of session_of m) t
  taken_away n t u = remove-hash_map_of nat_cmp_total nat_eq unsigned_ties session_of nat_cmp-IsAntisymmetric m n t u

-- ---- through what `get_mut` lends

module _ {H : Type 0} (sessions : FinMap nat_cmp transition.Session) (t : ℕ) (m : HashMap ℕ Session H) (others : remove (hash_map_of {R = nat_cmp} session_of m) t ≡ remove sessions t) (there : IsSome (hash.get nat_eq m t))
    (lender : Session → HashMap ℕ Session H) (holds : (w : Session) → WritesThrough nat_eq (nat_eq t) m w (lender w)) where
  -- the session as the line left it is in place of what was there
  pub left : (w : Session) → hash_map_of {R = nat_cmp} session_of (lender w) ≡ insert sessions t (session_of w)
  left w =
      put_at m (lender w) t w ((holds w).3 there)
      ∙ sym (insert-remove nat_cmp_total nat_cmp-IsAntisymmetric (hash_map_of {R = nat_cmp} session_of m) t (session_of w))
      ∙ ap (λ s. insert s t (session_of w)) others
      ∙ insert-remove nat_cmp_total nat_cmp-IsAntisymmetric sessions t (session_of w)

  -- and if it is taken away, nothing is left of it
  pub gone : (w : Session) → remove (hash_map_of {R = nat_cmp} session_of (lender w)) t ≡ remove sessions t
  gone w = ap (λ s. remove s t) (left w) ∙ remove-insert sessions t (session_of w)

module _ {H : Type 0} (t : ℕ) (m : HashMap ℕ Session H) (s : transition.Session) (known : get (hash_map_of {R = nat_cmp} session_of m) t ≡ Some s) where
  -- what is lent of a terminal's entry
  pub is_lent : (old : Session) → Some old ≡ hash.get nat_eq m t → session_of old ≡ s
  is_lent old found = ap (λ o. unwrap_or o (session_of old)) (ap (option_map session_of) found ∙ sym (held_at m t) ∙ known)

  -- there is one
  pub is_there : None ≡ hash.get nat_eq m t → ⊥
  is_there none = let both : None ≡ Some s = ap (option_map session_of) none ∙ sym (held_at m t) ∙ known in cc

-- ---- before the line

has_one : (o : Option Session) (g : Option transition.Session) → true ≡ is_some o → g ≡ option_map session_of o → g ≡ Some (session_or_new g)
has_one None g is e = cc
has_one (Some x) g is e = e ∙ ap (λ o. Some (session_or_new o)) (sym e)

has_none : (o : Option Session) (g : Option transition.Session) → false ≡ is_some o → g ≡ option_map session_of o → g ≡ None
has_none None g is e = e
has_none (Some x) g is e = cc

module _ {H : Type 0} (t : ℕ) (m : HashMap ℕ Session H) where
  pub had_one : true ≡ is_some (hash.get nat_eq m t) → get (hash_map_of {R = nat_cmp} session_of m) t ≡ Some (session_or_new (get (hash_map_of {R = nat_cmp} session_of m) t))
  had_one is = has_one (hash.get nat_eq m t) (get (hash_map_of {R = nat_cmp} session_of m) t) is (held_at m t)

  pub had_none : false ≡ is_some (hash.get nat_eq m t) → get (hash_map_of {R = nat_cmp} session_of m) t ≡ None
  had_none is = has_none (hash.get nat_eq m t) (get (hash_map_of {R = nat_cmp} session_of m) t) is (held_at m t)

  -- a new one is put there
  pub begun_at : (n : HashMap ℕ Session H) (new : Session) → hash.Updates nat_eq m n t (Some new) → session_of new ≡ new_session → get (hash_map_of {R = nat_cmp} session_of m) t ≡ None
      → get (hash_map_of {R = nat_cmp} session_of n) t ≡ Some (session_or_new (get (hash_map_of {R = nat_cmp} session_of m) t))
  begun_at n new u is none =
      ap (λ s. get s t) (put_at m n t new u)
      ∙ get-inserted (hash_map_of {R = nat_cmp} session_of m) t (session_of new)
      ∙ ap Some (is ∙ sym (ap session_or_new none))

  pub others_kept : (n : HashMap ℕ Session H) (new : Session) → hash.Updates nat_eq m n t (Some new) → remove (hash_map_of {R = nat_cmp} session_of n) t ≡ remove (hash_map_of {R = nat_cmp} session_of m) t
  others_kept n new u =
      ap (λ s. remove s t) (put_at m n t new u)
      ∙ remove-insert (hash_map_of {R = nat_cmp} session_of m) t (session_of new)
