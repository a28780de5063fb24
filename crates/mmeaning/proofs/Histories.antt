-- SPDX-License-Identifier: Apache-2.0
-- Histories and normal transitions.
use Rattle.mmeaning.proofs.MeaningWords.{◌≡◌, Bool, true, false, [], ◌∷◌, Option, Some, None, refl, sym, ap, ◌∙◌, subst, map, get, Outcome, Gives, Fails, Code}
use Rattle.mmeaning.proofs.MeaningWords.{Own, Halting, Completion, Ending, Faulted, Settings, Account, World, Event, Reply, Transition, TransitionBy, normal}
use Rattle.mmeaning.proofs.MeaningWords.{at_account, checked, is_too_long, is_ascii, ending_of, reply_of, is_failure, replies, world_after, NormalNeverFails}
use Rattle.mmeaning.proofs.MeaningWords.{NoneShowsHalting, NormalTransitionsAreHistory, HistoryIsNormal}

-- no act ends with a loss
ending_is_own : (c : Code) → is_failure (ending_of c) ≡ false
ending_is_own Halting = refl
ending_is_own c = refl

reply_is_own : (o : Outcome Completion) → is_failure (reply_of o).ending ≡ false
reply_is_own (Gives completion s) = refl
reply_is_own (Fails code s) = ending_is_own code

checked_is_own : (long ascii : Bool) (settings : Settings) (e : Event) (world : World) (account : Account) → is_failure (checked long ascii settings e world account).0.ending ≡ false
checked_is_own true ascii settings e world account = refl
checked_is_own false false settings e world account = refl
checked_is_own false true settings e world account = reply_is_own _

account_is_own : (settings : Settings) (e : Event) (world : World) (o : Option Account) → is_failure (at_account settings e world o).0.ending ≡ false
account_is_own settings e world None = refl
account_is_own settings e world (Some account) = checked_is_own (is_too_long e.text) (is_ascii e.text) settings e world account

pub normal_never_fails : NormalNeverFails
normal_never_fails settings e world = account_is_own settings e world (get settings.terminals e.terminal)

-- nor is the code of HALT shown
abbrev is_shown : Ending → Bool
is_shown (Faulted (Own Halting)) = true
is_shown e = false

ending_hides : (c : Code) → is_shown (ending_of c) ≡ false
ending_hides Halting = refl
ending_hides c = refl

reply_hides : (o : Outcome Completion) → is_shown (reply_of o).ending ≡ false
reply_hides (Gives completion s) = refl
reply_hides (Fails code s) = ending_hides code

checked_hides : (long ascii : Bool) (settings : Settings) (e : Event) (world : World) (account : Account) → is_shown (checked long ascii settings e world account).0.ending ≡ false
checked_hides true ascii settings e world account = refl
checked_hides false false settings e world account = refl
checked_hides false true settings e world account = reply_hides _

account_hides : (settings : Settings) (e : Event) (world : World) (o : Option Account) → is_shown (at_account settings e world o).0.ending ≡ false
account_hides settings e world None = refl
account_hides settings e world (Some account) = checked_hides (is_too_long e.text) (is_ascii e.text) settings e world account

pub none_shows_halting : NoneShowsHalting
none_shows_halting settings e world is = absurd (let clash : false ≡ true = sym (account_hides settings e world (get settings.terminals e.terminal)) ∙ ap is_shown is in cc)

-- a normal transition is a transition
normal_transition : (settings : Settings) (e : Event) (world : World) → Transition settings e (normal settings e world).0 world (normal settings e world).1
normal_transition settings e world =
    subst (λ (b : Bool). TransitionBy b settings e (normal settings e world).0 world (normal settings e world).1) (sym (normal_never_fails settings e world)) refl

pub normal_transitions_are_history : NormalTransitionsAreHistory
normal_transitions_are_history settings world [] = refl
normal_transitions_are_history settings world (e ∷ es) =
    ((normal settings e world).1, normal_transition settings e world, normal_transitions_are_history settings (normal settings e world).1 es)

-- a transition that did not fail is a normal one
step_is : (settings : Settings) (e : Event) (r : Reply) (world after : World) → Transition settings e r world after → is_failure r.ending ≡ false → normal settings e world ≡ (r, after)
step_is settings e r world after h ok = subst (λ (b : Bool). TransitionBy b settings e r world after) ok h

pub history_is_normal : HistoryIsNormal
history_is_normal settings world after [] h none = (refl, h)
history_is_normal settings world after (e ∷ es) h none =
    let here : normal settings e.0 world ≡ (e.1, h.0) = step_is settings e.0 e.1 world h.0 h.1 none.0 in
    let rest = history_is_normal settings h.0 after es h.2 none.1 in
    let first : e.1 ≡ (normal settings e.0 world).0 = sym (ap (λ r. r.0) here) in
    let second : h.0 ≡ (normal settings e.0 world).1 = sym (ap (λ r. r.1) here) in (
      ap (λ x. x ∷ map (λ y. y.1) es) first
          ∙ ap (λ xs. (normal settings e.0 world).0 ∷ xs) (rest.0 ∙ ap (λ s. replies settings s (map (λ y. y.0) es)) second),
      rest.1 ∙ ap (λ s. world_after settings s (map (λ y. y.0) es)) second,
    )
