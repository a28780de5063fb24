-- SPDX-License-Identifier: Apache-2.0
-- What a map of permits allows, beside the list of grants.
use Rattle.mgrant.proofs.GrantWords.{◌≡◌, ℕ, ◌==◌, ◌<◌, Bool, true, false, cond, List, ◌∷◌, ◌++◌, length, map, get_or, Some, All, refl, sym, ap, subst, ◌∙◌}
use Rattle.mgrant.proofs.GrantWords.{arith, inl, inr, length-append, slice_get, unwrap_or, ◌&&◌, ◌||◌, [], list_any, bytes_decides, cases_Bool, and_parts}
use Rattle.mgrant.proofs.GrantWords.{false≢true, ne_eqb, false_from_ne_true, map-append, All-head, All-tail, All-append, All-cons, All-nil, list_any-append}
use Rattle.mgrant.proofs.GrantWords.{list_any_at, slice_get_within, slice_get-get_or, unwrap_or-slice_get, Text, text_eq, text_in, IsPlaceOf, mode_of, placed}
use Rattle.mgrant.proofs.GrantWords.{lets_at, same_permit, Allowed, allows_so, IsAllowance, IsInterned, Permit, eqb-true, eq-eqb}
use Rattle.std.proofs.Math.Bool.{or-false}
use Rattle.std.specs.HashMap as hash
use Rattle.mspec.specs.Access as access
use Rattle.mgrant.specs.declared.mode.Mode.{Mode}
use Rattle.mgrant.specs.declared.grants.Given.{Given}
use Rattle.mgrant.proofs.Places.{slice_get_front, slice_get_at}

-- ---- names of globals

pub interned_new : (old : List Text) (name : Text) → IsInterned old name (old ++ name ∷ [], length old)
interned_new old name = record {
  here = slice_get_at old name [];
  kept = λ i within. slice_get_front old (name ∷ []) i within;
  grown = omega (arith, length-append old (name ∷ []));
}

-- grants are seen alike by more names
pub seen_by_more : (old globals : List Text) (gs : List Given) → ((i : ℕ) → i < length old → slice_get globals i ≡ slice_get old i) → All (λ g. g.permit.global < length old) gs
    → map (placed globals) gs ≡ map (placed old) gs
seen_by_more old globals [] kept within = refl
seen_by_more old globals (g ∷ gs) kept within =
    let here = ap (λ o. unwrap_or o []) (kept g.permit.global (All-head (λ g. g.permit.global < length old) g gs within)) in
    λ i. (record { from = g.permit.from; to = g.permit.to; global = here i; mode = mode_of g.mode }) ∷ seen_by_more old globals gs kept (All-tail (λ g. g.permit.global < length old) g gs within) i

-- one more grant, of a global whose name has got a place
pub within_more : (old globals : List Text) (name : Text) (place : ℕ) → IsInterned old name (globals, place) → (gs : List Given) → All (λ g. g.permit.global < length old) gs → (p : Permit) → p.global ≡ place → (mode : Mode)
    → All (λ g. g.permit.global < length globals) (gs ++ record { permit = p; mode = mode } ∷ [])
within_more old globals name place is gs within p at mode =
    let P : Given → Type 0 = λ g. g.permit.global < length globals in
    All-append P gs (record { permit = p; mode = mode } ∷ []) (λ k d lt. let had : (get_or gs k d).permit.global < length old = within k d lt in omega (arith, is.grown))
    (All-cons P (record { permit = p; mode = mode }) [] (subst (λ i. i < length globals) (sym at) (slice_get_within globals place name is.here)) (All-nil P))

pub placed_more : (old globals : List Text) (name : Text) (place : ℕ) → IsInterned old name (globals, place) → (gs : List Given) → All (λ g. g.permit.global < length old) gs → (p : Permit) → p.global ≡ place → (mode : Mode)
    → map (placed globals) (gs ++ record { permit = p; mode = mode } ∷ []) ≡ map (placed old) gs ++ (record { from = p.from; to = p.to; global = name; mode = mode_of mode }) ∷ []
placed_more old globals name place is gs within p at mode =
    let named = ap (text_in globals) at ∙ ap (λ o. unwrap_or o []) is.here in
    map-append (placed globals) gs (record { permit = p; mode = mode } ∷ [])
    ∙ (λ i. seen_by_more old globals gs is.kept within i ++ (record { from = p.from; to = p.to; global = named i; mode = mode_of mode }) ∷ [])

-- the name is that of a place exactly if the place is its own
pub place_test : (globals : List Text) (name : Text) (place i : ℕ) → IsPlaceOf globals name place → i < length globals → text_eq name (text_in globals i) ≡ (place == i)
place_test globals name place i is within =
    elim (cases_Bool (text_eq name (text_in globals i))) [
      | inl same ↦
          let at = slice_get-get_or globals i [] within ∙ ap Some (sym (unwrap_or-slice_get globals i []) ∙ sym ((bytes_decides name (text_in globals i)).0 same)) in
          same ∙ sym (eq-eqb place i (sym (is.alone i at)))
      | inr other ↦
          other ∙ sym (ne_eqb place i (λ e. false≢true (sym other ∙ (bytes_decides name (text_in globals i)).1 (sym (ap (λ o. unwrap_or o []) (subst (λ k. slice_get globals k ≡ Some name) e is.here))))))
    ]

regrouped : (a b c d : Bool) → ((a && b) && (c && d)) ≡ ((a && (b && c)) && d)
regrouped true true c d = refl
regrouped true false c d = refl
regrouped false b c d = refl

-- a grant by the places of names is a grant by names
pub lets_by_places : (globals : List Text) (name : Text) (me owner place : ℕ) (asked : access.Mode) → IsPlaceOf globals name place → (gs : List Given) → All (λ g. g.permit.global < length globals) gs
    → list_any (lets_at me owner name asked) (map (placed globals) gs) ≡ list_any (λ g. same_permit (record { from = owner; to = me; global = place }) g.permit && access.allows (mode_of g.mode) asked) gs
lets_by_places globals name me owner place asked is [] within = refl
lets_by_places globals name me owner place asked is (g ∷ gs) within =
    let here = place_test globals name place g.permit.global is (All-head (λ g. g.permit.global < length globals) g gs within) in
    let rest = lets_by_places globals name me owner place asked is gs (All-tail (λ g. g.permit.global < length globals) g gs within) in
    rw (here, rest, regrouped (owner == g.permit.from) (me == g.permit.to) (place == g.permit.global) (access.allows (mode_of g.mode) asked)) refl

pub unlike : (a b c d : Bool) → c ≡ false → ((a && b) && (c && d)) ≡ false
unlike true true c d e = rw e refl
unlike true false c d e = refl
unlike false b c d e = refl

-- no grant is of a global whose name is not there
pub lets_none : (globals : List Text) (name : Text) (me owner : ℕ) (asked : access.Mode) → list_any (text_eq name) globals ≡ false → (gs : List Given) → All (λ g. g.permit.global < length globals) gs
    → list_any (lets_at me owner name asked) (map (placed globals) gs) ≡ false
lets_none globals name me owner asked none [] within = refl
lets_none globals name me owner asked none (g ∷ gs) within =
    let i = g.permit.global in
    let other : text_eq name (text_in globals i) ≡ false =
    false_from_ne_true _ (λ same. false≢true (sym none ∙ list_any_at (text_eq name) globals i [] (All-head (λ g. g.permit.global < length globals) g gs within) (ap (text_eq name) (sym (unwrap_or-slice_get globals i [])) ∙ same))) in
    rw (unlike (owner == g.permit.from) (me == g.permit.to) (text_eq name (text_in globals i)) (access.allows (mode_of g.mode) asked) other) (lets_none globals name me owner asked none gs (All-tail (λ g. g.permit.global < length globals) g gs within))

-- ---- the map

permit_is : (p q : Permit) → same_permit p q ≡ true → p ≡ q
permit_is p q e =
    let (from, rest) = and_parts (p.from == q.from) (p.to == q.to && p.global == q.global) e in
    let (to, global) = and_parts (p.to == q.to) (p.global == q.global) rest in
    λ i. record { from = eqb-true p.from q.from from i; to = eqb-true p.to q.to to i; global = eqb-true p.global q.global global i }

same_same : (p : Permit) → same_permit p p ≡ true
same_same p = rw (eq-eqb p.from p.from refl, eq-eqb p.to p.to refl, eq-eqb p.global p.global refl) refl

unlike_back : (p q : Permit) → same_permit p q ≡ false → same_permit q p ≡ false
unlike_back p q e = false_from_ne_true _ (λ same. false≢true (sym e ∙ ap (λ r. same_permit r q) (sym (permit_is q p same)) ∙ same_same q))

-- a grant is put where the wider of its mode and the earlier one is
pub allowance_more : (gs : List Given) (m n : Allowed) (p : Permit) (mode best : Mode) → IsAllowance gs m → hash.UpdatesBy same_permit (same_permit p) m n (Some best)
    → ((asked : access.Mode) → access.allows (mode_of best) asked ≡ (allows_so (hash.get same_permit m p) asked || access.allows (mode_of mode) asked))
    → IsAllowance (gs ++ record { permit = p; mode = mode } ∷ []) n
allowance_more gs m n p mode best had u wider = record {
  at = λ q asked.
      let more = list_any-append (λ g. same_permit q g.permit && access.allows (mode_of g.mode) asked) gs (record { permit = p; mode = mode } ∷ []) in
      elim (cases_Bool (same_permit p q)) [
        | inl same ↦
            ap (λ o. allows_so o asked) (u.0 q ∙ ap (λ b. cond b (Some best) (hash.get same_permit m q)) same)
            ∙ wider asked
            ∙ ap (λ r. allows_so (hash.get same_permit m r) asked || access.allows (mode_of mode) asked) (permit_is p q same)
            ∙ sym (more ∙ rw (sym (had.at q asked), ap (λ r. same_permit q r) (permit_is p q same), same_same q) (ap (λ b. allows_so (hash.get same_permit m q) asked || b) (or-false (access.allows (mode_of mode) asked))))
        | inr other ↦
            ap (λ o. allows_so o asked) (u.0 q ∙ ap (λ b. cond b (Some best) (hash.get same_permit m q)) other)
            ∙ had.at q asked
            ∙ sym (more ∙ rw (unlike_back p q other) (or-false _))
      ];
}
