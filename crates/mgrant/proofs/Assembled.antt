-- SPDX-License-Identifier: Apache-2.0
-- The settings that are put together from the parts of a document.
use Rattle.mgrant.proofs.GrantWords.{◌≡◌, ◌⊎◌, inl, inr, ℕ, ◌+◌, ◌==◌, ◌<◌, ℤ, pos, negsuc, Bool, true, false, cond, List, [], ◌∷◌, ◌++◌, length, map, Option}
use Rattle.mgrant.proofs.GrantWords.{Some, None, refl, sym, ap, subst, ◌∙◌, arith, append_assoc, length-append, slice_get, option_and_then, unsigned_abs}
use Rattle.mgrant.proofs.GrantWords.{int_eq, list_all, flat_map, FinMap, from_entries, get-from_entries, same_map, nat_cmp-IsAntisymmetric, find, nat_cmp_total}
use Rattle.mgrant.proofs.GrantWords.{cases_Bool, cases_eq, and_parts, false≢true, eq-eqb, ne_eqb, Decides-int_eq, list_all-append, none-some, same_Some}
use Rattle.mgrant.proofs.GrantWords.{get_or_from_slice_get, Account, Written, WrittenAccount, WrittenGrant, names_of, terminals_of, are_names, are_terminals}
use Rattle.mgrant.proofs.GrantWords.{are_steps, are_grants, if◌then◌else◌, are_distinct, is_within, account_of, terminals_with, settings_of, Placed, Claim}
use Rattle.mgrant.proofs.GrantWords.{claims, claimed, HasTerminals, AreGranted, named, names_in, grant_of, terminals_from, settings_view, nat_cmp}
use Rattle.mgrant.specs.Document.{fault_of}
use Rattle.mgrant.specs.declared.fault.SettingsFault.TheVariants.{Grant}
use Rattle.mgrant.proofs.Places.{slice_get_at}
use Rattle.mgrant.proofs.Seen.{terminal_seen, tied_is}
use Rattle.mgrant.proofs.Parts.{terminals_all, different}

-- the names of the accounts are those that were written
pub names_are : (accounts : List WrittenAccount) → names_in (map account_of accounts) ≡ names_of accounts
names_are [] = refl
names_are (a ∷ rest) = ap (λ ns. a.name ∷ ns) (names_are rest)

-- what is wrong with a document, if all but its grants is good
fault_left : (w : Written) → are_names (names_of w.accounts) ≡ true → are_terminals (terminals_of w.accounts) ≡ true → are_steps w.accounts ≡ true → (good : Bool) → are_grants (names_of w.accounts) w.grants ≡ good
    → fault_of w ≡ (if good then None else Some Grant)
fault_left w names terminals steps true grants = rw (names, terminals, steps, grants) refl
fault_left w names terminals steps false grants = rw (names, terminals, steps, grants) refl

pub grants_judged : (w : Written) (written : List WrittenAccount) (gs : List WrittenGrant) (accounts : List Account) → written ≡ w.accounts → gs ≡ w.grants → accounts ≡ map account_of written
    → are_names (names_of written) ≡ true → are_terminals (terminals_of written) ≡ true → are_steps written ≡ true → (good : Bool) → are_grants (names_in accounts) gs ≡ good → fault_of w ≡ (if good then None else Some Grant)
grants_judged w written gs accounts same given is names terminals steps good grants =
    fault_left w (sym (ap (λ es. are_names (names_of es)) same) ∙ names) (sym (ap (λ es. are_terminals (terminals_of es)) same) ∙ terminals) (sym (ap are_steps same) ∙ steps) good
    (sym (λ i. are_grants ((ap names_in is ∙ names_are written ∙ ap names_of same) i) (given i)) ∙ grants)

-- ---- terminals

claimed_from : (t : ℤ) (place : ℕ) (ts : List ℤ) (more : List Claim) (i : ℕ) → claimed t (map (λ u. (u, place)) ts ++ more) ≡ Some i → (i ≡ place) ⊎ (claimed t more ≡ Some i)
claimed_from t place [] more i e = inr e
claimed_from t place (u ∷ ts) more i e =
    elim (cases_Bool (int_eq t u)) [
      | inl same ↦ inl (sym (same_Some place i (rw same at e)))
      | inr other ↦ claimed_from t place ts more i (rw other at e)
    ]

claimed_within : (t : ℤ) (place : ℕ) (accounts : List WrittenAccount) (i : ℕ) → claimed t (claims place accounts) ≡ Some i → i < place + length (names_of accounts)
claimed_within t place [] i e = absurd (none-some i e)
claimed_within t place (a ∷ rest) i e =
    elim (claimed_from t place a.terminals (claims (place + 1) rest) i e) [
      | inl same ↦ omega arith
      | inr later ↦ let low = claimed_within t (place + 1) rest i later in omega arith
    ]

pub placed_within : (accounts : List WrittenAccount) (v : List (Option ℕ)) → HasTerminals (claims 0 accounts) v → (t i : ℕ) → slice_get v t ≡ Some (Some i) → i < length (names_of accounts)
placed_within accounts v has t i at =
    let low = claimed_within (pos t) 0 accounts i (sym (has.each t) ∙ get_or_from_slice_get v t (Some i) None at) in
    omega arith

same_test : (q n : ℕ) → int_eq (pos q) (pos n) ≡ (q == n)
same_test q n =
    elim (cases_eq q n) [
      | inl same ↦ (Decides-int_eq (pos q) (pos n)).1 (ap pos same) ∙ sym (eq-eqb q n same)
      | inr other ↦ different q n other ∙ sym (ne_eqb q n other)
    ]

chosen : (G : ℕ → Option Account) (b : Bool) (k : ℕ) (a : Account) (o : Option ℕ) (r : Option Account) → G k ≡ Some a → option_and_then G o ≡ r → option_and_then G (cond b (Some k) o) ≡ cond b (Some a) r
chosen G true k a o r here later = here
chosen G false k a o r here later = later

-- one account's terminals
listed_seen : (G : ℕ → Option Account) (q k : ℕ) (a : Account) (ts : List ℤ) (more : List Claim) (rest : List (ℕ × Account)) → list_all (is_within 1 9999) ts ≡ true → G k ≡ Some a → option_and_then G (claimed (pos q) more) ≡ find nat_cmp q rest
    → option_and_then G (claimed (pos q) (map (λ t. (t, k)) ts ++ more)) ≡ find nat_cmp q (map (λ t. (unsigned_abs t, a)) ts ++ rest)
listed_seen G q k a [] more rest good here later = later
listed_seen G q k a (pos n ∷ ts) more rest good here later =
    let (one, others) = and_parts (is_within 1 9999 (pos n)) (list_all (is_within 1 9999) ts) good in
    chosen G (int_eq (pos q) (pos n)) k a (claimed (pos q) (map (λ t. (t, k)) ts ++ more)) _ here (listed_seen G q k a ts more rest others here later)
    ∙ ap (λ b. cond b (Some a) (find nat_cmp q (map (λ t. (unsigned_abs t, a)) ts ++ rest))) (same_test q n ∙ sym (tied_is q n))
listed_seen G q k a (negsuc n ∷ ts) more rest good here later = absurd (false≢true good)

terminals_found : (q : ℕ) (front : List Account) (accounts : List WrittenAccount) → list_all (is_within 1 9999) (terminals_of accounts) ≡ true
    → option_and_then (slice_get (front ++ map account_of accounts)) (claimed (pos q) (claims (length front) accounts)) ≡ find nat_cmp q (flat_map terminals_with accounts)
terminals_found q front [] good = refl
terminals_found q front (a ∷ rest) good =
    let (here, later) = and_parts (list_all (is_within 1 9999) a.terminals) (list_all (is_within 1 9999) (terminals_of rest)) (sym (list_all-append (is_within 1 9999) a.terminals (terminals_of rest)) ∙ good) in
    let next = front ++ account_of a ∷ [] in
    let more = terminals_found q next rest later in
    listed_seen (slice_get (front ++ account_of a ∷ map account_of rest)) q (length front) (account_of a) a.terminals (claims (length front + 1) rest) (flat_map terminals_with rest) here (slice_get_at front (account_of a) (map account_of rest))
    (subst (λ n. option_and_then (slice_get (front ++ account_of a ∷ map account_of rest)) (claimed (pos q) (claims n rest)) ≡ find nat_cmp q (flat_map terminals_with rest)) (omega (arith, length-append front (account_of a ∷ [])))
    (subst (λ all. option_and_then (slice_get all) (claimed (pos q) (claims (length next) rest)) ≡ find nat_cmp q (flat_map terminals_with rest)) (append_assoc front (account_of a ∷ []) (map account_of rest)) more))

terminals_are : (accounts : List WrittenAccount) (v : List (Option ℕ)) → HasTerminals (claims 0 accounts) v
    → ◌≡◌ {A = FinMap nat_cmp Account} (from_entries (terminals_from (map account_of accounts) 0 v)) (from_entries (flat_map terminals_with accounts))
terminals_are accounts v has =
    let good = (and_parts (list_all (is_within 1 9999) (terminals_of accounts)) (are_distinct int_eq (terminals_of accounts)) (terminals_all accounts v has)).0 in
    same_map nat_cmp_total nat_cmp-IsAntisymmetric (from_entries (terminals_from (map account_of accounts) 0 v)) (from_entries (flat_map terminals_with accounts)) (λ q.
    terminal_seen (map account_of accounts) v q ∙ ap (option_and_then (slice_get (map account_of accounts))) (has.each q) ∙ terminals_found q [] accounts good
    ∙ sym (get-from_entries nat_cmp_total (flat_map terminals_with accounts) q))

-- ---- all

pub assembled_is : (w : Written) (v : List (Option ℕ)) (grants : List Placed) → HasTerminals (claims 0 w.accounts) v → AreGranted (names_of w.accounts) w.grants grants
    → settings_view (map account_of w.accounts) v grants ≡ settings_of w
assembled_is w v grants has granted =
    let terminals = terminals_are w.accounts v has in
    let given : map (named (names_in (map account_of w.accounts))) grants ≡ map grant_of w.grants = ap (λ ns. map (named ns) grants) (names_are w.accounts) ∙ granted.same in
    λ i. record { accounts = map account_of w.accounts; terminals = terminals i; grants = given i }
