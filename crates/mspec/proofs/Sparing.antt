-- SPDX-License-Identifier: Apache-2.0
-- What KILL of all but some names leaves, and that hidden variables come back.
use Rattle.mspec.proofs.SpecWords.{ℕ, zero, suc, ◌≡◌, Bool, true, false, not, cond, ◌&&◌, ◌||◌, All, All-head, All-tail, List, [], ◌∷◌, ◌++◌, length, Option}
use Rattle.mspec.proofs.SpecWords.{Some, None, refl, sym, ap, ◌∙◌, unwrap_or, lookup, is_some, option_and_then, bytes_decides, get, empty, list_any, or_right}
use Rattle.mspec.proofs.SpecWords.{Text, Tree, text_eq}
use Rattle.std.proofs.lemmas.List.Folds.{list_any-append}
use Rattle.std.proofs.lemmas.Map.Made.{is_some-lookup}
use Rattle.std.proofs.Math.Bool.{or-true, or-false}
use Rattle.std.specs.List.{flat_map}
use Rattle.std.specs.Map.{keys_of}
use Rattle.mspec.specs.Scopes.{Scope, Scopes, has, is_among, linked, tree_in, tree_of, at_home, set_in, kill_in, emptied, passed, known_below, is_name}
use Rattle.mspec.specs.Scopes.{leads_to, ways, stays, killed_but, on_top, hide, hide_others, without_level}
use Rattle.mspec.specs.ScopeLaws.{home_of, NamesStayJoined, KillExceptSpares, HiddenVariablesStay, HiddenVariablesComeBack, Call, Assign, Kill, KillExcept, New}
use Rattle.mspec.specs.ScopeLaws.{NewExcept, Enter, EnterBound, Leave, after_all, is_nested}
use Rattle.mspec.proofs.Basics.{by_test}
use Rattle.mspec.proofs.ScopeFacts.{tree-retain, has-hide, others_among, others_else}
use Rattle.mspec.proofs.Homes.{Changes, home_stays, other_home, set_changes, kill_changes, same_name, no_home, not_linked, text_itself}

-- ---- the names that lead to a variable

any_of : (p : Text → Bool) (names : List Text) (n : Text) → is_among names n ≡ true → p n ≡ true → list_any p names ≡ true
any_of p [] n e h = absurd (cc)
any_of p (m ∷ names) n e h = here (text_eq n m) refl e (λ e. any_of p names n e h)
  where
    here : (b : Bool) → text_eq n m ≡ b → (b || is_among names n) ≡ true → (is_among names n ≡ true → list_any p names ≡ true) → (p m || list_any p names) ≡ true
    here true is e rest = ap (λ k. p k || list_any p names) (sym ((bytes_decides n m).0 is)) ∙ ap (λ b. b || list_any p names) h
    here false is e rest = or_right (p m) (list_any p names) (rest e)

found_of : {A : Type 0} (p : Text → Bool) (names : List Text) → list_any p names ≡ true → ((n : Text) → is_among names n ≡ true → p n ≡ true → A) → A
found_of p [] e found = absurd (cc)
found_of {A = A} p (m ∷ names) e found = here (p m) refl e (λ e. found_of p names e (λ n among is. found n (or_right (text_eq n m) (is_among names n) among) is))
  where
    here : (b : Bool) → p m ≡ b → (b || list_any p names) ≡ true → (list_any p names ≡ true → A) → A
    here true is e rest = found m (ap (λ b. b || is_among names m) (text_itself m)) is
    here false is e rest = rest e

leads_is : (m : Text) (above : List Scope) (n : Text) → leads_to m above n ≡ true → known_below above n ≡ Some m
leads_is m above n e = here (known_below above n) e
  where
    here : (o : Option Text) → is_name m o ≡ true → o ≡ Some m
    here None e = absurd (cc)
    here (Some k) e = ap Some (sym ((bytes_decides m k).0 e))

is_leading : (m : Text) (above : List Scope) (n : Text) → known_below above n ≡ Some m → leads_to m above n ≡ true
is_leading m above n e = ap (is_name m) e ∙ text_itself m

passed_on : (s : Scope) (n : Text) → has s n ≡ false → passed s n ≡ Some (linked s n)
passed_on s n e = ap (λ b. cond b None (Some (linked s n))) e

passed_is : {A : Type 0} (s : Scope) (n m : Text) → passed s n ≡ Some m → (has s n ≡ false → linked s n ≡ m → A) → A
passed_is {A = A} s n m e found = here (has s n) refl e
  where
    here : (b : Bool) → has s n ≡ b → cond b None (Some (linked s n)) ≡ Some m → A
    here true is e = absurd (cc)
    here false is e = found is (ap (λ o. unwrap_or o m) e)

pub known_is : {A : Type 0} (s : Scope) (above : List Scope) (n m : Text) → known_below (s ∷ above) n ≡ Some m
    → ((k : Text) → known_below above n ≡ Some k → has s k ≡ false → linked s k ≡ m → A) → A
known_is {A = A} s above n m e found = here (known_below above n) refl e
  where
    here : (o : Option Text) → known_below above n ≡ o → option_and_then (passed s) o ≡ Some m → A
    here None is e = absurd (cc)
    here (Some k) is e = passed_is s k m e (found k is)

-- the names of links
abbrev names_of : List Scope → List Text
names_of above = flat_map (λ s. keys_of s.links) above

by_name : (a b c d : Bool) → a ≡ d → (a || b) ≡ true → (d || (c || b)) ≡ true
by_name true b c d e h = ap (λ x. x || (c || b)) (sym e)
by_name false b c d e h = or_right d (c || b) (or_right c b h)

by_link : (n k : Text) (ks : List Text) (b : Bool) → is_among ks k ≡ true → (a : Bool) → text_eq n k ≡ a → (a || b) ≡ true → (is_among ks n || b) ≡ true
by_link n k ks b among true e h = ap (λ x. x || b) (ap (is_among ks) ((bytes_decides n k).0 e) ∙ among)
by_link n k ks b among false e h = or_right (is_among ks n) b h

-- one scope further up
way_up : (s : Scope) (above : List Scope) (n k m : Text) (o : Option Text) → lookup (text_eq k) s.links ≡ o → linked s k ≡ m → is_among (ways above k) n ≡ true → is_among (ways (s ∷ above) m) n ≡ true
way_up s above n k m None is to way =
    let same : k ≡ m = ap (λ o. unwrap_or o k) (sym is) ∙ to in
    ap (λ b. text_eq n m || b) (list_any-append (text_eq n) (keys_of s.links) (names_of above))
    ∙ by_name (text_eq n k) (is_among (names_of above) n) (is_among (keys_of s.links) n) (text_eq n m) (ap (text_eq n) same) way
way_up s above n k m (Some j) is to way =
    let linked_k : is_among (keys_of s.links) k ≡ true = sym (is_some-lookup (text_eq k) s.links) ∙ ap is_some is in
    ap (λ b. text_eq n m || b) (list_any-append (text_eq n) (keys_of s.links) (names_of above))
    ∙ or_right (text_eq n m) (is_among (keys_of s.links) n || is_among (names_of above) n)
    (by_link n k (keys_of s.links) (is_among (names_of above) n) linked_k (text_eq n k) refl way)

-- a name that leads to a variable is the variable's, or that of a link
is_way : (above : List Scope) (n m : Text) → known_below above n ≡ Some m → is_among (ways above m) n ≡ true
is_way [] n m e = ap (λ o. text_eq n (unwrap_or o n) || false) (sym e) ∙ ap (λ b. b || false) (text_itself n)
is_way (s ∷ above) n m e = known_is s above n m e (λ k is other to. way_up s above n k m (lookup (text_eq k) s.links) refl to (is_way above n k is))

-- a variable to which a name leads can be seen
is_seen : (above : List Scope) (n m : Text) → known_below above n ≡ Some m → list_any (leads_to m above) (ways above m) ≡ true
is_seen above n m e = any_of (leads_to m above) (ways above m) n (is_way above n m e) (is_leading m above n e)

-- ---- KILL of all but some names

-- none of the names that pass a test leads to the variable of a name below
abbrev Apart : (Text → Bool) → List Scope → Scopes → Text → Type 0
Apart p above scopes n = (x k : Text) → p x ≡ true → known_below above x ≡ Some k → home_of scopes k ≡ home_of scopes n → ⊥

apart_below : (p : Text → Bool) (above : List Scope) (s : Scope) (below : Scopes) (n : Text) → has s n ≡ false → Apart p above (s ∷ below) n → Apart p (s ∷ above) below (linked s n)
apart_below p above s below n mine apart x k passes known same =
    known_is s above x k known (λ j is other to. apart x j passes is
    (ap (λ b. cond b (Some (length below, j)) (home_of below (linked s j))) other ∙ ap (home_of below) to ∙ same
    ∙ sym (ap (λ b. cond b (Some (length below, n)) (home_of below (linked s n))) mine)))

-- what a scope keeps, by whether it has the name
kept_in : (names : List Text) (above : List Scope) (s : Scope) (n : Text) (b : Bool) → stays names above n ≡ b → tree_in (emptied (stays names above) s) n ≡ cond b (tree_in s n) empty
kept_in names above s n b e = tree-retain s (stays names above) n ∙ ap (λ b. cond b (tree_in s n) empty) e

-- a name that is spared leads to it
pub spared : (names : List Text) (above : List Scope) (scopes : Scopes) (x k n : Text) → is_among names x ≡ true → known_below above x ≡ Some k → home_of scopes k ≡ home_of scopes n
    → tree_of (killed_but names above scopes) n ≡ tree_of scopes n
spared names above [] x k n among known same = refl
spared names above (s ∷ below) x k n among known same =
    here (has s k) (has s n) refl same (λ apart. spared names (s ∷ above) below x (linked s k) (linked s n) among (ap (option_and_then (passed s)) known ∙ passed_on s k apart))
  where
    here : (a b : Bool) → has s k ≡ a → cond a (Some (length below, k)) (home_of below (linked s k)) ≡ cond b (Some (length below, n)) (home_of below (linked s n))
        → (has s k ≡ false → home_of below (linked s k) ≡ home_of below (linked s n) → tree_of (killed_but names (s ∷ above) below) (linked s n) ≡ tree_of below (linked s n))
        → cond b (tree_in (emptied (stays names above) s) n) (tree_of (killed_but names (s ∷ above) below) (linked s n)) ≡ cond b (tree_in s n) (tree_of below (linked s n))
    here true true is same rest =
        let leads : leads_to n above x ≡ true = is_leading n above x (known ∙ ap Some (same_name (length below) k n same)) in
        kept_in names above s n true (ap (λ b. b || not (list_any (leads_to n above) (ways above n))) (any_of (leads_to n above) names x among leads))
    here true false is same rest = absurd (no_home below (linked s n) k (sym same))
    here false true is same rest = absurd (no_home below (linked s k) n same)
    here false false is same rest = rest is same

-- a name leads to it, and none that is spared
gone : (names : List Text) (above : List Scope) (scopes : Scopes) (x n : Text) → known_below above x ≡ Some n → Apart (is_among names) above scopes n → tree_of (killed_but names above scopes) n ≡ empty
gone names above [] x n known apart = refl
gone names above (s ∷ below) x n known apart =
    here (has s n) refl (λ mine. gone names (s ∷ above) below x (linked s n) (ap (option_and_then (passed s)) known ∙ passed_on s n mine) (apart_below (is_among names) above s below n mine apart))
  where
    not_spared : (b : Bool) → list_any (leads_to n above) names ≡ b → (b || not (list_any (leads_to n above) (ways above n))) ≡ false
    not_spared true e = absurd (found_of (leads_to n above) names e (λ m among leads. apart m n among (leads_is n above m leads) refl))
    not_spared false e = ap not (is_seen above x n known)

    here : (b : Bool) → has s n ≡ b → (has s n ≡ false → tree_of (killed_but names (s ∷ above) below) (linked s n) ≡ empty)
        → cond b (tree_in (emptied (stays names above) s) n) (tree_of (killed_but names (s ∷ above) below) (linked s n)) ≡ empty
    here true is rest = kept_in names above s n false (not_spared (list_any (leads_to n above) names) refl)
    here false is rest = rest is

-- no name leads to it
unseen : (names : List Text) (above : List Scope) (scopes : Scopes) (n : Text) → Apart (λ x. true) above scopes n → tree_of (killed_but names above scopes) n ≡ tree_of scopes n
unseen names above [] n apart = refl
unseen names above (s ∷ below) n apart =
    here (has s n) refl (λ mine. unseen names (s ∷ above) below (linked s n) (apart_below (λ x. true) above s below n mine apart))
  where
    hidden : (b : Bool) → list_any (leads_to n above) (ways above n) ≡ b → (list_any (leads_to n above) names || not b) ≡ true
    hidden true e = absurd (found_of (leads_to n above) (ways above n) e (λ m among leads. apart m n refl (leads_is n above m leads) refl))
    hidden false e = or-true (list_any (leads_to n above) names)

    here : (b : Bool) → has s n ≡ b → (has s n ≡ false → tree_of (killed_but names (s ∷ above) below) (linked s n) ≡ tree_of below (linked s n))
        → cond b (tree_in (emptied (stays names above) s) n) (tree_of (killed_but names (s ∷ above) below) (linked s n)) ≡ cond b (tree_in s n) (tree_of below (linked s n))
    here true is rest = kept_in names above s n true (hidden (list_any (leads_to n above) (ways above n)) refl)
    here false is rest = rest is

length_left : (names : List Text) (above : List Scope) (scopes : Scopes) → length (killed_but names above scopes) ≡ length scopes
length_left names above [] = refl
length_left names above (s ∷ below) = ap suc (length_left names (s ∷ above) below)

home_left : (names : List Text) (above : List Scope) (scopes : Scopes) (n : Text) → home_of (killed_but names above scopes) n ≡ home_of scopes n
home_left names above [] n = refl
home_left names above (s ∷ below) n = λ i. cond (has s n) (Some (length_left names (s ∷ above) below i, n)) (home_left names (s ∷ above) below (linked s n) i)

-- ---- the laws

pub names_stay_joined : NamesStayJoined
names_stay_joined scopes n = record {
  assigned = λ m xs x. home_stays (λ m. set_in m xs x) (set_changes xs x) m scopes n;
  killed = λ m xs. home_stays (λ m s. kill_in m xs (get s.trees m) s) (kill_changes xs) m scopes n;
  killed_except = λ names. home_left names [] scopes n;
}

pub kill_except_spares : KillExceptSpares
kill_except_spares scopes names n = (
  λ m among same. spared names [] scopes m m n among refl same,
  λ apart. gone names [] scopes n n refl (λ x k among known same. apart x among (ap (λ o. home_of scopes (unwrap_or o x)) known ∙ same)),
)

-- ---- scopes without links

-- below scopes without links a name is that name, if none has it
known_as : (above : List Scope) (n : Text) → All (λ s. s.links ≡ []) above → known_below above n ≡ cond (list_any (λ s. has s n) above) None (Some n)
known_as [] n none = refl
known_as (s ∷ above) n none =
    ap (option_and_then (passed s)) (known_as above n (All-tail (λ s. s.links ≡ []) s above none))
    ∙ here (list_any (λ s. has s n) above) (has s n) (ap Some (not_linked s n (All-head (λ s. s.links ≡ []) s above none)))
  where
    here : (a b : Bool) → ◌≡◌ {A = Option Text} (Some (linked s n)) (Some n) → option_and_then (λ k. cond (has s k) None (Some (linked s k))) (cond a None (Some n)) ≡ cond (has s n || a) None (Some n)
    here true b is = ap (λ c. cond c None (Some n)) (sym (or-true (has s n)))
    here false b is = ap (λ o. cond (has s n) None o) is ∙ ap (λ c. cond c None (Some n)) (sym (or-false (has s n)))

no_ways : (above : List Scope) → All (λ s. s.links ≡ []) above → flat_map (λ s. keys_of s.links) above ≡ []
no_ways [] none = refl
no_ways (s ∷ above) none =
    ap (λ ls. keys_of ls ++ flat_map (λ s. keys_of s.links) above) (All-head (λ s. s.links ≡ []) s above none) ∙ no_ways above (All-tail (λ s. s.links ≡ []) s above none)

module _ (above : List Scope) (n : Text) (none : All (λ s. s.links ≡ []) above) where
  abbrev hidden : Bool
  hidden = list_any (λ s. has s n) above

  leading : (m : Text) → leads_to n above m ≡ (text_eq n m && not hidden)
  leading m = ap (is_name n) (known_as above m none) ∙ by_test (text_eq n m) (λ is. here m ((bytes_decides n m).0 is) is) (λ is. there (list_any (λ s. has s m) above) is)
    where
      both : (b : Bool) → is_name n (cond b None (Some n)) ≡ (true && not b)
      both true = refl
      both false = text_itself n

      here : (m : Text) → n ≡ m → text_eq n m ≡ true → is_name n (cond (list_any (λ s. has s m) above) None (Some m)) ≡ (text_eq n m && not hidden)
      here m same is = ap (λ k. is_name n (cond (list_any (λ s. has s k) above) None (Some k))) (sym same) ∙ both hidden ∙ ap (λ b. b && not hidden) (sym is)

      there : (b : Bool) → text_eq n m ≡ false → is_name n (cond b None (Some m)) ≡ (text_eq n m && not hidden)
      there true is = ap (λ b. b && not hidden) (sym is)
      there false is = is ∙ ap (λ b. b && not hidden) (sym is)

  any_leading : (names : List Text) → list_any (leads_to n above) names ≡ (is_among names n && not hidden)
  any_leading [] = refl
  any_leading (m ∷ names) = (λ i. leading m i || any_leading names i) ∙ spread (text_eq n m) (is_among names n) (not hidden)
    where
      spread : (a b c : Bool) → ((a && c) || (b && c)) ≡ ((a || b) && c)
      spread true true true = refl
      spread true true false = refl
      spread true false true = refl
      spread true false false = refl
      spread false b c = refl

  staying : (names : List Text) → stays names above n ≡ (is_among names n || hidden)
  staying names =
      (λ i. any_leading names i || not (list_any (leads_to n above) (n ∷ no_ways above none i)))
      ∙ ap (λ b. (is_among names n && not hidden) || not b) (any_leading (n ∷ []) ∙ ap (λ b. (b || false) && not hidden) (text_itself n))
      ∙ here (is_among names n) hidden
    where
      here : (a b : Bool) → ((a && not b) || not (true && not b)) ≡ (a || b)
      here true true = refl
      here true false = refl
      here false true = refl
      here false false = refl

pub hidden_variables_stay : HiddenVariablesStay
hidden_variables_stay names above n none = staying above n none names

-- ---- any calls

abbrev AreSome : Scopes → Type 0
AreSome [] = ⊥
AreSome (s ∷ scopes) = Unit {0}

home-some : (m : Text) (f : Text → Scope → Scope) (scopes : Scopes) → AreSome scopes → AreSome (at_home f m scopes)
home-some m f [] h = h
home-some m f (s ∷ scopes) h = here (has s m)
  where
    here : (b : Bool) → AreSome (cond b (f m s ∷ scopes) (s ∷ at_home f (linked s m) scopes))
    here true = tt
    here false = tt

spared-some : (names : List Text) (above : List Scope) (scopes : Scopes) → AreSome scopes → AreSome (killed_but names above scopes)
spared-some names above [] h = h
spared-some names above (s ∷ scopes) h = tt

-- no other name leads through the scope to the variable below
abbrev Alone : Scope → Scopes → Text → Type 0
Alone s below n = (m : Text) → has s m ≡ false → home_of below (linked s m) ≡ home_of below n → ⊥

-- the scope under this many levels hides the name, and the name's variable in those below it is this tree
abbrev Stands : Text → Tree → ℕ → Scopes → Type 0
Stands n t d [] = ⊥
Stands n t zero (s ∷ scopes) = (has s n ≡ true) × Alone s scopes n × (tree_of scopes n ≡ t) × AreSome scopes
Stands n t (suc d) (s ∷ scopes) = Stands n t d scopes

hide_has : (names : List Text) (s : Scope) (n : Text) → has s n ≡ true → has (hide names s) n ≡ true
hide_has names s n e = has-hide names s n ∙ ap (λ b. b || is_among names n) e

hide_others_has : (names : List Text) (s : Scope) (n : Text) → has s n ≡ true → has (hide_others names s) n ≡ true
hide_others_has names s n e = here (is_among names n) refl
  where
    here : (b : Bool) → is_among names n ≡ b → has (hide_others names s) n ≡ true
    here true among = ap (λ b. is_among s.names n || b) (others_among names s.others n among) ∙ e
    here false others = ap (λ b. is_among s.names n || b) (others_else names s.others n others) ∙ or-true (is_among s.names n)

module _ (n : Text) (t : Tree) where
  stands-home : (m : Text) (f : Text → Scope → Scope) → Changes f → (d : ℕ) (scopes : Scopes) → Stands n t d scopes → Stands n t d (at_home f m scopes)
  stands-home m f of d [] h = h
  stands-home m f of zero (s ∷ scopes) h = here (has s m) refl
    where
      here : (b : Bool) → has s m ≡ b → Stands n t zero (cond b (f m s ∷ scopes) (s ∷ at_home f (linked s m) scopes))
      here true e = (of.names m s n ∙ h.0, λ k not_mine same. h.1 k (sym (of.names m s k) ∙ not_mine) (ap (λ ls. home_of scopes (unwrap_or (lookup (text_eq k) ls) k)) (sym (of.links m s)) ∙ same), h.2, h.3)
      here false e = (
        h.0,
        λ k not_mine same. h.1 k not_mine (sym (home_stays f of (linked s m) scopes (linked s k)) ∙ same ∙ home_stays f of (linked s m) scopes n),
        other_home f of (linked s m) n scopes (h.1 m e) ∙ h.2,
        home-some (linked s m) f scopes h.3,
      )
  stands-home m f of (suc d) (s ∷ scopes) h = here (has s m) (stands-home (linked s m) f of d scopes h)
    where
      here : (b : Bool) → Stands n t d (at_home f (linked s m) scopes) → Stands n t (suc d) (cond b (f m s ∷ scopes) (s ∷ at_home f (linked s m) scopes))
      here true rest = h
      here false rest = rest

  stands-spared : (names : List Text) (above : List Scope) (d : ℕ) (scopes : Scopes) → Stands n t d scopes → Stands n t d (killed_but names above scopes)
  stands-spared names above d [] h = h
  stands-spared names above zero (s ∷ scopes) h = (
    h.0,
    λ k not_mine same. h.1 k not_mine (sym (home_left names (s ∷ above) scopes (linked s k)) ∙ same ∙ home_left names (s ∷ above) scopes n),
    unseen names (s ∷ above) scopes n (λ x k _ known same. known_is s above x k known (λ j is not_mine to. h.1 j not_mine (ap (home_of scopes) to ∙ same))) ∙ h.2,
    spared-some names (s ∷ above) scopes h.3,
  )
  stands-spared names above (suc d) (s ∷ scopes) h = stands-spared names (s ∷ above) d scopes h

  fewer : (a b : Bool) → (a ≡ true → b ≡ true) → b ≡ false → a ≡ false
  fewer true b keeps e = sym (keeps refl) ∙ e
  fewer false b keeps e = refl

  stands-top : (f : Scope → Scope) → ((s : Scope) (k : Text) → has s k ≡ true → has (f s) k ≡ true) → ((s : Scope) → (f s).links ≡ s.links)
      → (d : ℕ) (scopes : Scopes) → Stands n t d scopes → Stands n t d (on_top f scopes)
  stands-top f keeps links d [] h = h
  stands-top f keeps links zero (s ∷ scopes) h = (
    keeps s n h.0,
    λ k not_mine same. h.1 k (fewer (has s k) (has (f s) k) (keeps s k) not_mine) (ap (λ ls. home_of scopes (unwrap_or (lookup (text_eq k) ls) k)) (sym (links s)) ∙ same),
    h.2,
    h.3,
  )
  stands-top f keeps links (suc d) (s ∷ scopes) h = h

  left : (d : ℕ) (scopes : Scopes) → Stands n t (suc d) scopes → Stands n t d (without_level scopes)
  left d [] h = h
  left d (s ∷ []) h = absurd h
  left d (s ∷ u ∷ scopes) h = h

  stands-all : (calls : List Call) (d : ℕ) (scopes : Scopes) → is_nested calls d ≡ true → Stands n t d scopes → Stands n t zero (after_all calls scopes)
  stands-all [] zero scopes e h = h
  stands-all [] (suc d) scopes e h = cc
  stands-all (Assign m xs x ∷ calls) d scopes e h = stands-all calls d _ e (stands-home m (λ m. set_in m xs x) (set_changes xs x) d scopes h)
  stands-all (Kill m xs ∷ calls) d scopes e h = stands-all calls d _ e (stands-home m (λ m s. kill_in m xs (get s.trees m) s) (kill_changes xs) d scopes h)
  stands-all (KillExcept names ∷ calls) d scopes e h = stands-all calls d _ e (stands-spared names [] d scopes h)
  stands-all (New names ∷ calls) d scopes e h = stands-all calls d _ e (stands-top (hide names) (hide_has names) (λ s. refl) d scopes h)
  stands-all (NewExcept names ∷ calls) d scopes e h = stands-all calls d _ e (stands-top (hide_others names) (hide_others_has names) (λ s. refl) d scopes h)
  stands-all (Enter ∷ calls) d scopes e h = stands-all calls (suc d) _ e h
  stands-all (EnterBound bs ∷ calls) d scopes e h = stands-all calls (suc d) _ e h
  stands-all (Leave ∷ calls) zero scopes e h = cc
  stands-all (Leave ∷ calls) (suc d) scopes e h = stands-all calls d (without_level scopes) e (left d scopes h)

  below-is : (scopes : Scopes) → Stands n t zero scopes → tree_of (without_level scopes) n ≡ t
  below-is [] h = absurd h
  below-is (s ∷ []) h = absurd h.3
  below-is (s ∷ u ∷ scopes) h = h.2

pub hidden_variables_come_back : HiddenVariablesComeBack
hidden_variables_come_back s u below n calls hides nested =
    let t : Tree = tree_of (u ∷ below) n in
    below-is n t (after_all calls (s ∷ u ∷ below)) (stands-all n t calls zero (s ∷ u ∷ below) nested (hides.mine, hides.alone, refl, tt))
