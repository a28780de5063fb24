-- SPDX-License-Identifier: Apache-2.0
-- The scopes of levels above the one at the bottom.
use Rattle.mlocal.proofs.LocalWords.{◌≡◌, Bool, false, not, List, [], ◌∷◌, ◌++◌, length, reverse, None, Some, refl, sym, ap, arith, filter, retain_keys, Text}
use Rattle.mlocal.proofs.LocalWords.{Scope, entered, emptied, outermost, is_among, newed, newed_except, bottom_of, NamedTrees}
use Rattle.mlocal.proofs.LocalWords.{◌∙◌, Option, empty, get-empty, slice_cmp, nat_cmp, option_map, unwrap_or, tree_in}
use Rattle.mlocal.proofs.Stacks.{none_common}
use Rattle.mspec.proofs.ComputedMaps.{no_trees_cut}

-- all above the bottom go
pub all_go : (above : List Scope) (bottom : Scope) → outermost (above ++ bottom ∷ []) ≡ bottom ∷ []
all_go [] bottom = refl
all_go (s ∷ []) bottom = refl
all_go (s ∷ t ∷ above) bottom = all_go (t ∷ above) bottom

-- a scope without names has no text to take away
pub none_emptied : (spared : Text → Bool) → entered ≡ emptied spared entered
none_emptied spared = sym (ap (λ trees. record { names = []; others = None; trees = trees; links = [] }) (no_trees_cut spared))

-- a level without a scope has no text
pub entered_tree : {B : Type 0} (f : B → Scope) (o : Option B) (s : Scope) → o ≡ None → unwrap_or (option_map f o) entered ≡ s → (n : Text)
    → empty ≡ tree_in s n
entered_tree f o s none view n =
    ap (λ t. unwrap_or t empty) (sym (get-empty (slice_cmp nat_cmp) n))
    ∙ ap (λ t. tree_in t n) (ap (λ q. unwrap_or (option_map f q) entered) (sym none) ∙ view)

-- ---- NEW at the bottom, which has every name

none_lacking : (names : List Text) → filter (λ n. false) names ≡ []
none_lacking [] = refl
none_lacking (n ∷ names) = none_lacking names

pub bottom_hidden : (names : List Text) (ts us : NamedTrees) → us ≡ retain_keys ts (λ n. not (is_among names n)) → (xs : List Scope) → length xs ≡ 0
    → reverse xs ++ bottom_of us ∷ [] ≡ newed names (reverse xs ++ bottom_of ts ∷ [])
bottom_hidden names ts us e (x ∷ xs) h = absurd (omega (arith, h))
bottom_hidden names ts us e [] h =
    (λ j. record { names = sym (none_lacking names) j; others = Some []; trees = e j; links = [] } ∷ [])

pub bottom_others : (names : List Text) (ts us : NamedTrees) → us ≡ retain_keys ts (is_among names) → (xs : List Scope) → length xs ≡ 0
    → reverse xs ++ bottom_of us ∷ [] ≡ newed_except names (reverse xs ++ bottom_of ts ∷ [])
bottom_others names ts us e (x ∷ xs) h = absurd (omega (arith, h))
bottom_others names ts us e [] h =
    (λ j. record { names = []; others = Some (sym (none_common names) j); trees = e j; links = [] } ∷ [])
