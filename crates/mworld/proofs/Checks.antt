-- SPDX-License-Identifier: Apache-2.0
-- The checks that come before a line's text is parsed.
use Rattle.mworld.proofs.WorldWords.{◌≡◌, ℕ, true, false, Some, None, refl, sym, ap, subst, ◌∙◌, length, ◌<◌, ◌≤◌, arith, List, [], ◌∷◌, zero, suc, slice_get}
use Rattle.mworld.proofs.WorldWords.{unwrap_or, option_map, Err, get, Settings, account_at, account_of, Event, World, Transition, Faulted, normal, refused}
use Rattle.mworld.proofs.WorldWords.{checked, at_account, at_tree, is_too_long, is_ascii, Zterm, Zline, Zchar, fault_of, Code, Passes, Admits}
use Rattle.std.proofs.lemmas.Bool.Decides.{nat_tests}
use Rattle.mmeaning.specs.Transition.{Account, Reply}

-- the account at a place that is among them
at_place : (accounts : List Account) (place : ℕ) → place < length accounts → (account : Account) × (slice_get accounts place ≡ Some account)
at_place [] place within = absurd (omega arith)
at_place (a ∷ rest) zero within = (a, refl)
at_place (a ∷ rest) (suc n) within = at_place rest n (omega arith)

-- the account of a terminal
pub found : (settings : Settings) (terminal place : ℕ) → account_at settings place ≡ account_of settings terminal → place < length settings.accounts → (account : Account) × (get settings.terminals terminal ≡ Some account)
found settings terminal place same within = let there = at_place settings.accounts place within in (there.0, sym same ∙ there.1)

-- and its place
pub known : (settings : Settings) (terminal place : ℕ) (text : List ℕ) → account_at settings place ≡ account_of settings terminal → place < length settings.accounts → is_too_long text ≡ false → is_ascii text ≡ true → Passes settings (record { terminal = terminal; text = text }) place
known settings terminal place text same within short ascii =
    let there = at_place settings.accounts place within in
    record {
      account = there.0;
      known = sym same ∙ there.1;
      name = sym (ap (λ o. unwrap_or (option_map (λ (a : Account). a.name) o) []) there.1);
      steps = sym (ap (λ o. unwrap_or (option_map (λ (a : Account). a.steps) o) 0) there.1);
      language = sym (ap (λ o. unwrap_or (option_map (λ (a : Account). a.language) o) 0) there.1);
      short = short;
      ascii = ascii;
    }

-- what each check refuses
pub unknown_refused : (settings : Settings) (e : Event) (world : World) → get settings.terminals e.terminal ≡ None → normal settings e world ≡ refused Zterm world
unknown_refused settings e world none = ap (at_account settings e world) none

pub long_refused : (settings : Settings) (e : Event) (account : Account) (world : World) → get settings.terminals e.terminal ≡ Some account → is_too_long e.text ≡ true → normal settings e world ≡ refused Zline world
long_refused settings e account world some long = ap (at_account settings e world) some ∙ ap (λ l. checked l (is_ascii e.text) settings e world account) long

pub other_refused : (settings : Settings) (e : Event) (account : Account) (world : World) → get settings.terminals e.terminal ≡ Some account → is_too_long e.text ≡ false → is_ascii e.text ≡ false → normal settings e world ≡ refused Zchar world
other_refused settings e account world some short other =
    ap (at_account settings e world) some ∙ ap (λ l. checked l (is_ascii e.text) settings e world account) short
    ∙ ap (λ a. checked false a settings e world account) other

-- what they let through
pub let_through : (settings : Settings) (e : Event) (account : Account) (world : World) → get settings.terminals e.terminal ≡ Some account → is_too_long e.text ≡ false → is_ascii e.text ≡ true → normal settings e world ≡ at_tree settings e world account
let_through settings e account world some short ascii =
    ap (at_account settings e world) some ∙ ap (λ l. checked l (is_ascii e.text) settings e world account) short
    ∙ ap (λ a. checked false a settings e world account) ascii

pub is_short : (text : List ℕ) → length text ≤ 255 → is_too_long text ≡ false
is_short text h = grind (arith, nat_tests)

pub is_long : (text : List ℕ) → 255 < length text → is_too_long text ≡ true
is_long text h = grind (arith, nat_tests)

-- a line that they refuse is a transition that changes nothing
pub refused_transition : (settings : Settings) (e : Event) (code : Code) (reply : Reply) (world : World) → Admits settings e (Err code) → reply ≡ record { out = []; ending = Faulted (fault_of code) } → Transition settings e reply world world
refused_transition settings e code reply world admits is =
    subst (λ r. Transition settings e r world world) (sym (is ∙ ap (λ fault. record { out = []; ending = Faulted fault }) admits.1)) (admits.2 world)
