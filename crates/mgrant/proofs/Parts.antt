-- SPDX-License-Identifier: Apache-2.0
-- The parts of settings, entry by entry.
use Rattle.mgrant.proofs.GrantWords.{◌≡◌, inl, inr, ℕ, zero, suc, ◌+◌, ◌<◌, ◌≤◌, ℤ, pos, Bool, true, false, List, ◌∷◌, ◌++◌, length, map, take, drop, get_or}
use Rattle.mgrant.proofs.GrantWords.{get_or_default, set, Option, Some, None, refl, sym, ap, subst, ◌∙◌, arith, append_assoc, append-nil, length-take-le}
use Rattle.mgrant.proofs.GrantWords.{add-one, add-zero, take-append-drop, is_some, not, ◌&&◌, unwrap_or, if◌then◌else◌, int_eq, [], list_any, list_all}
use Rattle.mgrant.proofs.GrantWords.{nat_list_eq_equiv, cases_eq, cases_Bool, and_right, false≢true, false_from_ne_true, Decides-int_eq, map-append, take_more}
use Rattle.mgrant.proofs.GrantWords.{length-map, get_or-set_same, get_or-set_other, list_all-append, none-some, slice_get_within, Text, text_eq, WrittenAccount}
use Rattle.mgrant.proofs.GrantWords.{WrittenGrant, names_of, terminals_of, are_names, are_terminals, is_account_name, is_name, mode_named, is_grant, is_within}
use Rattle.mgrant.proofs.GrantWords.{grant_of, Mode, Read, Placed, mode_of, account_view, grant_view, entries_seen, grants_seen, Claim, claims_at, claims}
use Rattle.mgrant.proofs.GrantWords.{numbers, claimed, HasTerminals, AreGranted, IsNumberWithin, IsPlacing, named, IsAmong, All-append, All-cons, All-nil}
use Rattle.std.proofs.Math.Seq.{split_at}
use Rattle.std.proofs.lemmas.Cmp.{int_eq_equiv}
use Rattle.std.specs.Option.{option_or}
use Rattle.mgrant.specs.declared.checks.Placing.{Placing}
use Rattle.mgrant.specs.declared.document.AccountEntry.{AccountEntry}
use Rattle.mgrant.specs.declared.document.GrantEntry.{GrantEntry}
use Rattle.mgrant.proofs.GoodLists.{good_push, good_front, good_fails}

-- a list is its front, an element and the rest
around : {X : Type 0} (xs : List X) (i : ℕ) (d : X) → i < length xs → xs ≡ take i xs ++ get_or xs i d ∷ drop (i + 1) xs
around xs i d within = rw add-one (split_at xs i d within)

mapped_around : {X Y : Type 0} (f : X → Y) (xs : List X) (i : ℕ) (d : X) → i < length xs → map f xs ≡ map f (take i xs) ++ f (get_or xs i d) ∷ map f (drop (i + 1) xs)
mapped_around f xs i d within = ap (map f) (around xs i d within) ∙ map-append f (take i xs) (get_or xs i d ∷ drop (i + 1) xs)

mapped_more : {X Y : Type 0} (f : X → Y) (xs : List X) (i : ℕ) (d : X) → i < length xs → map f (take (i + 1) xs) ≡ map f (take i xs) ++ f (get_or xs i d) ∷ []
mapped_more f xs i d within = ap (map f) (take_more xs i d within) ∙ map-append f (take i xs) (get_or xs i d ∷ [])

-- ---- names

pub names_more : (es : List AccountEntry) (i : ℕ) (d : AccountEntry) → i < length es → names_of (entries_seen (take (i + 1) es)) ≡ names_of (entries_seen (take i es)) ++ (get_or es i d).name.items ∷ []
names_more es i d within = ap names_of (mapped_more account_view es i d within) ∙ map-append (λ (a : WrittenAccount). a.name) (entries_seen (take i es)) (account_view (get_or es i d) ∷ [])

pub names_good : (names : List Text) (name : Text) → are_names names ≡ true → is_account_name name ≡ true → list_any (text_eq name) names ≡ false → are_names (names ++ name ∷ []) ≡ true
names_good names name good is new = good_push is_account_name text_eq nat_list_eq_equiv.symm names name ∙ rw (good, is, new) refl

pub names_fail : (es : List AccountEntry) (i : ℕ) (d : AccountEntry) → i < length es
    → (is_account_name (get_or es i d).name.items && not (list_any (text_eq (get_or es i d).name.items) (names_of (entries_seen (take i es))))) ≡ false → are_names (names_of (entries_seen es)) ≡ false
names_fail es i d within bad =
    let whole = ap names_of (mapped_around account_view es i d within) ∙ map-append (λ (a : WrittenAccount). a.name) (entries_seen (take i es)) (account_view (get_or es i d) ∷ entries_seen (drop (i + 1) es)) in
    ap are_names whole ∙ good_fails is_account_name text_eq nat_list_eq_equiv.symm (names_of (entries_seen (take i es))) (get_or es i d).name.items (names_of (entries_seen (drop (i + 1) es))) bad

pub names_count : (es : List AccountEntry) (i : ℕ) → i ≤ length es → length (names_of (entries_seen (take i es))) ≡ i
names_count es i within =
    length-map (entries_seen (take i es)) (λ (a : WrittenAccount). a.name) ∙ length-map (take i es) account_view ∙ length-take-le i es within

-- ---- terminals

numbers_of : (place : ℕ) (ts : List ℤ) → numbers (map (λ t. (t, place)) ts) ≡ ts
numbers_of place [] = refl
numbers_of place (t ∷ ts) = ap (λ us. t ∷ us) (numbers_of place ts)

numbers_at : (place : ℕ) (ts : List ℤ) (seen : List Claim) → numbers (claims_at place ts seen) ≡ numbers seen ++ ts
numbers_at place ts seen = map-append (λ (c : Claim). c.0) seen (map (λ t. (t, place)) ts) ∙ ap (λ us. numbers seen ++ us) (numbers_of place ts)

none_claimed : (t : ℤ) (cs : List Claim) → claimed t cs ≡ None → list_any (int_eq t) (numbers cs) ≡ false
none_claimed t [] e = refl
none_claimed t (c ∷ cs) e =
    elim (cases_Bool (int_eq t c.0)) [
      | inl same ↦ absurd (none-some c.1 (sym (rw same at e)))
      | inr other ↦ rw other (none_claimed t cs (rw other at e))
    ]

some_claimed : (t : ℤ) (cs : List Claim) (i : ℕ) → claimed t cs ≡ Some i → list_any (int_eq t) (numbers cs) ≡ true
some_claimed t [] i e = absurd (none-some i e)
some_claimed t (c ∷ cs) i e =
    elim (cases_Bool (int_eq t c.0)) [
      | inl same ↦ rw same refl
      | inr other ↦ rw other (some_claimed t cs i (rw other at e))
    ]

claimed_append : (t : ℤ) (cs ds : List Claim) → claimed t (cs ++ ds) ≡ option_or (claimed t cs) (claimed t ds)
claimed_append t [] ds = refl
claimed_append t (c ∷ cs) ds =
    elim (cases_Bool (int_eq t c.0)) [
      | inl same ↦ rw same refl
      | inr other ↦ rw other (claimed_append t cs ds)
    ]

claimed_push : (t : ℤ) (cs : List Claim) (c : Claim) → claimed t cs ≡ None → claimed t (cs ++ c ∷ []) ≡ (if int_eq t c.0 then Some c.1 else None)
claimed_push t cs c e = claimed_append t cs (c ∷ []) ∙ ap (λ o. option_or o (claimed t (c ∷ []))) e

or_none : (o : Option ℕ) → option_or o None ≡ o
or_none None = refl
or_none (Some i) = refl

claimed_other : (t : ℤ) (cs : List Claim) (c : Claim) → int_eq t c.0 ≡ false → claimed t (cs ++ c ∷ []) ≡ claimed t cs
claimed_other t cs c e = claimed_append t cs (c ∷ []) ∙ rw e (or_none (claimed t cs))

pub same_pos : {t n : ℕ} → pos t ≡ pos n → t ≡ n
same_pos e = cc

pub different : (t n : ℕ) → (t ≡ n → ⊥) → int_eq (pos t) (pos n) ≡ false
different t n other = false_from_ne_true _ (λ same. other (same_pos ((Decides-int_eq (pos t) (pos n)).0 same)))

-- one claim more
pub claim_more : (cs : List Claim) (v : List (Option ℕ)) (n place : ℕ) → HasTerminals cs v → is_within 1 9999 (pos n) ≡ true → n < length v → get_or v n None ≡ None → HasTerminals (cs ++ (pos n, place) ∷ []) (set v n (Some place))
claim_more cs v n place had is within free = record {
  good = ap are_terminals (map-append (λ (c : Claim). c.0) cs ((pos n, place) ∷ [])) ∙ good_push (is_within 1 9999) int_eq int_eq_equiv.symm (numbers cs) (pos n)
      ∙ rw (had.good, is, none_claimed (pos n) cs (sym (had.each n) ∙ free)) refl;
  each = λ t.
      elim (cases_eq t n) [
        | inl same ↦
            subst (λ k. get_or (set v n (Some place)) k None ≡ claimed (pos k) (cs ++ (pos n, place) ∷ [])) (sym same)
            (get_or-set_same v n (Some place) None within ∙ sym (claimed_push (pos n) cs (pos n, place) (sym (had.each n) ∙ free) ∙ rw ((Decides-int_eq (pos n) (pos n)).1 refl) refl))
        | inr other ↦
            get_or-set_other v n t (Some place) None other ∙ had.each t ∙ sym (claimed_other (pos t) cs (pos n, place) (different t n other))
      ];
}

-- claims in turn
pub claim_step : (place : ℕ) (ts : List ℤ) (seen : List Claim) (i : ℕ) (d : ℤ) → i < length ts → claims_at place (take (i + 1) ts) seen ≡ claims_at place (take i ts) seen ++ (get_or ts i d, place) ∷ []
claim_step place ts seen i d within = ap (λ cs. seen ++ cs) (mapped_more (λ t. (t, place)) ts i d within) ∙ sym (append_assoc seen (map (λ t. (t, place)) (take i ts)) ((get_or ts i d, place) ∷ []))

-- a number that is no terminal, or has been claimed
pub claim_fails : (place : ℕ) (ts : List ℤ) (seen : List Claim) (i : ℕ) (d : ℤ) → i < length ts
    → (is_within 1 9999 (get_or ts i d) && not (list_any (int_eq (get_or ts i d)) (numbers (claims_at place (take i ts) seen)))) ≡ false → are_terminals (numbers (claims_at place ts seen)) ≡ false
claim_fails place ts seen i d within bad =
    let whole : numbers (claims_at place ts seen) ≡ numbers (claims_at place (take i ts) seen) ++ get_or ts i d ∷ drop (i + 1) ts =
    numbers_at place ts seen ∙ ap (λ us. numbers seen ++ us) (around ts i d within)
    ∙ sym (append_assoc (numbers seen) (take i ts) (get_or ts i d ∷ drop (i + 1) ts)) ∙ ap (λ us. us ++ get_or ts i d ∷ drop (i + 1) ts) (sym (numbers_at place (take i ts) seen)) in
    ap are_terminals whole ∙ good_fails (is_within 1 9999) int_eq int_eq_equiv.symm (numbers (claims_at place (take i ts) seen)) (get_or ts i d) (drop (i + 1) ts) bad

there_some : {X : Type 0} (xs : List (Option X)) (n : ℕ) → n < length xs → (r : Option X) → r ≡ get_or xs n r → is_some r ≡ true → (x : X) × (get_or xs n None ≡ Some x)
there_some xs n within None e h = absurd (false≢true h)
there_some xs n within (Some x) e h = (x, sym (e ∙ get_or_default xs n (Some x) None within))

pub free_there : {X : Type 0} (xs : List (Option X)) (n : ℕ) → n < length xs → (r : Option X) → r ≡ get_or xs n r → is_some r ≡ false → get_or xs n None ≡ None
free_there xs n within None e h = sym e
free_there xs n within (Some x) e h = absurd (false≢true (sym h))

-- a number that has been claimed
pub claimed_twice : (cs : List Claim) (t : ℤ) (n : ℕ) → IsNumberWithin 9999 t n → (v : List (Option ℕ)) → HasTerminals cs v → n < length v → (r : Option ℕ) → r ≡ get_or v n r → is_some r ≡ true → (is_within 1 9999 t && not (list_any (int_eq t) (numbers cs))) ≡ false
claimed_twice cs t n is v has within r e h =
    let (i, at) = there_some v n within r e h in
    and_right (is_within 1 9999 t) _ (ap not (some_claimed t cs i (ap (λ z. claimed z cs) is.is ∙ sym (has.each n) ∙ at)))

claims_push : (place : ℕ) (accounts : List WrittenAccount) (a : WrittenAccount) → claims place (accounts ++ a ∷ []) ≡ claims_at (place + length accounts) a.terminals (claims place accounts)
claims_push place [] a = append-nil _ ∙ ap (λ p. map (λ t. (t, p)) a.terminals) (sym (add-zero place))
claims_push place (b ∷ rest) a =
    ap (λ cs. map (λ t. (t, place)) b.terminals ++ cs) (claims_push (place + 1) rest a)
    ∙ sym (append_assoc (map (λ t. (t, place)) b.terminals) (claims (place + 1) rest) _)
    ∙ ap (λ p. (map (λ t. (t, place)) b.terminals ++ claims (place + 1) rest) ++ map (λ t. (t, p)) a.terminals) (omega arith)

pub claims_more : (es : List AccountEntry) (i : ℕ) (d : AccountEntry) → i < length es → claims 0 (entries_seen (take (i + 1) es)) ≡ claims_at i (get_or es i d).terminals.items (claims 0 (entries_seen (take i es)))
claims_more es i d within =
    ap (claims 0) (mapped_more account_view es i d within) ∙ claims_push 0 (entries_seen (take i es)) (account_view (get_or es i d))
    ∙ ap (λ p. claims_at p (get_or es i d).terminals.items (claims 0 (entries_seen (take i es)))) (rw (length-map (take i es) account_view, length-take-le i es (omega arith)) (omega arith))

numbers_claims : (place : ℕ) (accounts : List WrittenAccount) → numbers (claims place accounts) ≡ terminals_of accounts
numbers_claims place [] = refl
numbers_claims place (a ∷ rest) =
    map-append (λ (c : Claim). c.0) (map (λ t. (t, place)) a.terminals) (claims (place + 1) rest)
    ∙ (λ i. numbers_of place a.terminals i ++ numbers_claims (place + 1) rest i)

-- terminals that are good so far are good in the end, and those that are not spoil the whole
pub terminals_all : (accounts : List WrittenAccount) (v : List (Option ℕ)) → HasTerminals (claims 0 accounts) v → are_terminals (terminals_of accounts) ≡ true
terminals_all accounts v has = ap are_terminals (sym (numbers_claims 0 accounts)) ∙ has.good

terminals_append : (xs ys : List WrittenAccount) → terminals_of (xs ++ ys) ≡ terminals_of xs ++ terminals_of ys
terminals_append [] ys = refl
terminals_append (x ∷ xs) ys = ap (λ ts. x.terminals ++ ts) (terminals_append xs ys) ∙ sym (append_assoc x.terminals (terminals_of xs) (terminals_of ys))

pub terminals_fail : (es : List AccountEntry) (i : ℕ) (d : AccountEntry) → i < length es → are_terminals (numbers (claims_at i (get_or es i d).terminals.items (claims 0 (entries_seen (take i es))))) ≡ false
    → are_terminals (terminals_of (entries_seen es)) ≡ false
terminals_fail es i d within bad =
    let front : are_terminals (terminals_of (entries_seen (take (i + 1) es))) ≡ false = ap are_terminals (sym (numbers_claims 0 (entries_seen (take (i + 1) es))) ∙ ap numbers (claims_more es i d within)) ∙ bad in
    let whole : entries_seen es ≡ entries_seen (take (i + 1) es) ++ entries_seen (drop (i + 1) es) = ap entries_seen (sym (take-append-drop (i + 1) es)) ∙ map-append account_view (take (i + 1) es) (drop (i + 1) es) in
    ap (λ s. are_terminals (terminals_of s)) whole ∙ ap are_terminals (terminals_append (entries_seen (take (i + 1) es)) (entries_seen (drop (i + 1) es)))
    ∙ good_front (is_within 1 9999) int_eq int_eq_equiv.symm (terminals_of (entries_seen (take (i + 1) es))) (terminals_of (entries_seen (drop (i + 1) es))) front

none_last : (v : List (Option ℕ)) (t : ℕ) → get_or (v ++ None ∷ []) t None ≡ get_or v t None
none_last [] zero = refl
none_last [] (suc t) = refl
none_last (o ∷ v) zero = refl
none_last (o ∷ v) (suc t) = none_last v t

pub no_terminals : HasTerminals [] []
no_terminals = record { good = refl; each = λ t. refl }

pub none_more : (v : List (Option ℕ)) → HasTerminals [] v → HasTerminals [] (v ++ None ∷ [])
none_more v has = record { good = refl; each = λ t. none_last v t ∙ has.each t }

-- ---- accounts and grants: entries that each pass

pub all_more : {X Y : Type 0} (f : X → Y) (p : Y → Bool) (xs : List X) (i : ℕ) (d : X) → i < length xs → list_all p (map f (take i xs)) ≡ true → p (f (get_or xs i d)) ≡ true → list_all p (map f (take (i + 1) xs)) ≡ true
all_more f p xs i d within had here = ap (list_all p) (mapped_more f xs i d within) ∙ list_all-append p (map f (take i xs)) (f (get_or xs i d) ∷ []) ∙ rw (had, here) refl

pub all_fails : {X Y : Type 0} (f : X → Y) (p : Y → Bool) (xs : List X) (i : ℕ) (d : X) → i < length xs → p (f (get_or xs i d)) ≡ false → list_all p (map f xs) ≡ false
all_fails f p xs i d within bad =
    ap (list_all p) (mapped_around f xs i d within) ∙ list_all-append p (map f (take i xs)) (f (get_or xs i d) ∷ map f (drop (i + 1) xs)) ∙ and_right (list_all p (map f (take i xs))) _ (rw bad refl)

pub granted : (names : List Text) (g : WrittenGrant) → list_any (text_eq g.from) names ≡ true → list_any (text_eq g.to) names ≡ true → text_eq g.from g.to ≡ false → is_name g.global ≡ true → (m : Mode) → mode_named g.mode ≡ Some m
    → is_grant names g ≡ true
granted names g from to apart name m mode = rw (from, to, apart, name, mode) refl

-- a grant is the one that was written
named_as : (names : List Text) (g : WrittenGrant) (p : Placing) → IsPlacing names g p → named names (record { from = p.from; to = p.to; global = g.global; mode = mode_of p.mode }) ≡ grant_of g
named_as names g p is = λ i. record {
  from = unwrap_or (is.from i) [];
  to = unwrap_or (is.to i) [];
  global = g.global;
  mode = unwrap_or (sym is.mode i) Read;
}

pub grants_more : (names : List Text) (es : List GrantEntry) (i : ℕ) (e : GrantEntry) → i < length es → get_or es i e ≡ e → (ps : List Placed) → AreGranted names (grants_seen (take i es)) ps → (p : Placing) → IsPlacing names (grant_view e) p
    → AreGranted names (grants_seen (take (i + 1) es)) (ps ++ (record { from = p.from; to = p.to; global = e.global.items; mode = mode_of p.mode }) ∷ [])
grants_more names es i e within at ps had p is =
    let q : Placed = record { from = p.from; to = p.to; global = e.global.items; mode = mode_of p.mode } in
    let seen : grants_seen (take (i + 1) es) ≡ grants_seen (take i es) ++ grant_view e ∷ [] = mapped_more grant_view es i e within ∙ ap (λ x. grants_seen (take i es) ++ grant_view x ∷ []) at in
    record {
      same = map-append (named names) ps (q ∷ []) ∙ (λ j. had.same j ++ named_as names (grant_view e) p is j ∷ []) ∙ sym (ap (map grant_of) seen ∙ map-append grant_of (grants_seen (take i es)) (grant_view e ∷ []));
      among = All-append (IsAmong (length names)) ps (q ∷ []) had.among (All-cons (IsAmong (length names)) q [] (record { from = slice_get_within names p.from _ is.from; to = slice_get_within names p.to _ is.to }) (All-nil (IsAmong (length names))));
    }
