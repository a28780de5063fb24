-- SPDX-License-Identifier: Apache-2.0
-- Who may be kept apart, of the host of three customers: the bank, as long as nobody grants it anything.
use Rattle.misolation.proofs.IsolationWords.{◌≡◌, true, false, ◌&&◌, refl, sym, ap, subst₂, ⊎_elim, nat_eq, if◌then◌else◌, bytes_decides, or_cases, and_parts}
use Rattle.misolation.proofs.IsolationWords.{Text, text_eq, carries, Placement, KeepsTies}
use Rattle.misolation.proofs.IsolationExamples.{clinic, laboratory, bank, results_read, apart, let_in}

-- the bank on a machine of its own, and all others on another one
abbrev two_machines : Placement
two_machines x = if text_eq x bank then 2 else 1

-- the laboratory's results go to the clinic, and nothing else goes anywhere
ends : (x y : Text) → carries x y results_read ≡ true → (x ≡ laboratory) × (y ≡ clinic)
ends x y e = ⊎_elim
    (λ a. let parts = and_parts (text_eq x laboratory) (text_eq y clinic) a in ((bytes_decides x laboratory).0 parts.0, (bytes_decides y clinic).0 parts.1))
    (λ a. let no : false ≡ true = (and_parts (text_eq x clinic && text_eq y laboratory) false a).1 in absurd (cc))
    (or_cases (text_eq x laboratory && text_eq y clinic) _ e)

bank_may_be_apart : KeepsTies apart two_machines
bank_may_be_apart x y f = ⊎_elim
    (λ a. let from = (ends x y a).0 in let to = (ends x y a).1 in subst₂ (λ v w. two_machines v ≡ two_machines w) (sym from) (sym to) refl)
    (λ a. let no : false ≡ true = a in absurd (cc))
    (or_cases (carries x y results_read) false f)

-- let write the clinic's bills it may not
bank_may_not : KeepsTies let_in two_machines → ⊥
bank_may_not ties = let no : true ≡ false = ap (λ m. nat_eq m 1) (ties clinic bank refl) in absurd (cc)

-- nor may ever the clinic without the laboratory
clinic_alone : (place : Placement) → KeepsTies apart place → place laboratory ≡ place clinic
clinic_alone place ties = ties laboratory clinic refl
