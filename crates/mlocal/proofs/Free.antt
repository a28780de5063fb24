-- SPDX-License-Identifier: Apache-2.0
-- Places from which on scopes pass a name on as it is.
use Rattle.std.proofs.Common.{zero, ◌*◌, ◌⊎◌, inl, inr, min, length-append}
use Rattle.std.proofs.Math.Nat.{mod-lt}
use Rattle.std.proofs.Math.Seq.{map-set_same}
use Rattle.std.proofs.lemmas.Bool.{cases_lt}
use Rattle.std.proofs.lemmas.List.{get_or_append_left, get_or_push, get_or-map, get_or-set_other, get_or-set_same, length-map, length_push}
use Rattle.mlocal.proofs.LocalWords.{◌≡◌, ℕ, suc, ◌+◌, ◌-◌, ◌<◌, ◌≤◌, Bool, false, true, List, [], ◌∷◌, ◌++◌, length, drop, get_or, map, set, Option, Some}
use Rattle.mlocal.proofs.LocalWords.{None, refl, sym, ap, ◌∙◌, ◌||◌, cond, unwrap_or, subst, arith, length-set, Tree, is_bare, tree_in, with_tree, without}
use Rattle.mlocal.proofs.LocalWords.{retain_keys, not, drop_all, drop-cons, false_from_ne_true, lookup, is_among, is_other, Text, text_eq, Scope, entered}
use Rattle.mlocal.proofs.LocalWords.{slice_get, slice_get-get_or, passed, known_below, killed_up, kill_in, option_and_then, add-one}
use Rattle.mlocal.proofs.LocalWords.{AreBare, AreFree, IsFree, IsHome, IsRaised, place_at, slot, Result, Ok, Err, OnOk}
use Rattle.mlocal.proofs.LocalWords.{OnErr, NamedTrees, is_some, option_map}
use Rattle.mlocal.proofs.Tables.{same_name}
use Rattle.mlocal.proofs.Views.{scope_of}

-- ---- known by the same name further down

passes-on : (n m : Text) (xs : List Scope) (i : ℕ) (d : Scope) → i < length xs → known_below (drop (i + 1) xs) n ≡ Some m → passed (get_or xs i d) m ≡ Some m
    → known_below (drop i xs) n ≡ Some m
passes-on n m xs i d lt known same =
    ap (λ l. known_below l n) (drop-cons xs i d lt ∙ ap (λ k. get_or xs i d ∷ drop k xs) (sym (add-one i)))
    ∙ ap (option_and_then (passed (get_or xs i d))) known ∙ same

pub free_down : (n m : Text) (xs : List Scope) (p : ℕ) → IsFree p xs m → (j : ℕ) → p + j ≤ length xs → known_below (drop (p + j) xs) n ≡ Some m
    → known_below (drop p xs) n ≡ Some m
free_down n m xs p free zero le known =
    let last : p + zero ≡ p = omega arith in
    subst (λ i. known_below (drop i xs) n ≡ Some m) last known
free_down n m xs p free (suc j) le known =
    let lt : p + j < length xs = omega (arith, le) in
    let step : p + suc j ≡ (p + j) + 1 = omega arith in
    let here : known_below (drop ((p + j) + 1) xs) n ≡ Some m = subst (λ i. known_below (drop i xs) n ≡ Some m) step known in
    free_down n m xs p free j (omega (arith, le)) (passes-on n m xs (p + j) entered lt here (free (p + j) entered (omega arith) lt))

-- from the end down
pub free_from : (n : Text) (xs : List Scope) (p : ℕ) → p ≤ length xs → IsFree p xs n → known_below (drop p xs) n ≡ Some n
free_from n xs p le free =
    let all : p + (length xs - p) ≡ length xs = omega (arith, le) in
    free_down n n xs p free (length xs - p) (omega (arith, le)) (ap (λ l. known_below l n) (drop_all (p + (length xs - p)) xs (omega (arith, all))))

-- from a place down to another one, if that is lower
pub free_to : (n m : Text) (xs : List Scope) (q p r : ℕ) → q ≤ length xs → known_below (drop q xs) n ≡ Some m → IsFree p xs m → r ≡ min q p
    → known_below (drop r xs) n ≡ Some m
free_to n m xs q p r le known free is = here (cases_lt p q)
  where
    here : (p < q) ⊎ (q ≤ p) → known_below (drop r xs) n ≡ Some m
    here (inr high) =
        let same : r ≡ q = omega (arith, is, high) in
        subst (λ i. known_below (drop i xs) n ≡ Some m) (sym same) known
    here (inl low) =
        let same : r ≡ p = omega (arith, is, low) in
        let back : p + (q - p) ≡ q = omega (arith, low) in
        subst (λ i. known_below (drop i xs) n ≡ Some m) (sym same)
        (free_down n m xs p free (q - p) (omega (arith, back, le)) (subst (λ i. known_below (drop i xs) n ≡ Some m) (sym back) known))

-- from the bottom on: then each name's variable is below all of them
pub bare_home : (n : Text) (xs : List Scope) (p : ℕ) → p ≡ 0 → AreBare p xs → IsHome n xs None n
bare_home n xs p none bare = free_from n xs 0 (omega arith) (subst (λ q. IsFree q xs n) none (bare n))

-- ---- lists of scopes that change, whatever the places of names are by

abbrev AreFreeFrom : (Text → ℕ) → List Scope → Type 0
AreFreeFrom p xs = (n : Text) → IsFree (p n) xs n

-- scopes that pass names on alike
free_alike : (p : Text → ℕ) (xs ys : List Scope) → ((n : Text) → map (λ s. passed s n) ys ≡ map (λ s. passed s n) xs) → AreFreeFrom p xs
    → AreFreeFrom p ys
free_alike p xs ys same free = λ n k d le lt.
    let f : Scope → Option Text = λ s. passed s n in
    let len : length ys ≡ length xs = sym (length-map ys f) ∙ ap length (same n) ∙ length-map xs f in
    let lt' : k < length xs = subst (λ i. k < i) len lt in
    sym (get_or-map f ys k d (f d) lt) ∙ ap (λ l. get_or l k (f d)) (same n) ∙ get_or-map f xs k d (f d) lt' ∙ free n k d le lt'

-- one of them changed, in another way
free_set : (p : Text → ℕ) (xs : List Scope) (i : ℕ) (w x : Scope) → x ≡ get_or xs i x → ((n : Text) → passed w n ≡ passed x n) → AreFreeFrom p xs
    → AreFreeFrom p (set xs i w)
free_set p xs i w x is same = free_alike p xs (set xs i w) (λ n. map-set_same (λ s. passed s n) xs i w x (same n ∙ ap (λ s. passed s n) is))

killed-alike : (names : List Text) (xs : List Scope) (n : Text) → map (λ s. passed s n) (killed_up names xs) ≡ map (λ s. passed s n) xs
killed-alike names [] n = refl
killed-alike names (s ∷ above) n = ap (λ l. passed s n ∷ l) (killed-alike names above n)

free_killed : (p : Text → ℕ) (names : List Text) (xs ys : List Scope) → ys ≡ killed_up names xs → AreFreeFrom p xs → AreFreeFrom p ys
free_killed p names xs ys is free = subst (AreFreeFrom p) (sym is) (free_alike p xs (killed_up names xs) (killed-alike names xs) free)

-- the scopes below
free_below : (p : Text → ℕ) (xs ys zs : List Scope) → zs ≡ xs ++ ys → AreFreeFrom p zs → AreFreeFrom p xs
free_below p xs ys zs is free = λ n k d le lt.
    let more : k < length (xs ++ ys) = omega (arith, lt, length-append xs ys) in
    ap (λ s. passed s n) (sym (get_or_append_left xs ys d k lt)) ∙ subst (AreFreeFrom p) is free n k d le more

-- one more, which has no name
free_entered : (p : Text → ℕ) (xs : List Scope) → AreFreeFrom p xs → AreFreeFrom p (xs ++ entered ∷ [])
free_entered p xs free = λ n k d le lt. here n k d le lt (cases_lt k (length xs))
  where
    here : (n : Text) (k : ℕ) (d : Scope) → p n ≤ k → k < length (xs ++ entered ∷ []) → (k < length xs) ⊎ (length xs ≤ k)
        → passed (get_or (xs ++ entered ∷ []) k d) n ≡ Some n
    here n k d le lt (inl less) = ap (λ s. passed s n) (get_or_append_left xs (entered ∷ []) d k less) ∙ free n k d le less
    here n k d le lt (inr last) = ap (λ s. passed s n) (get_or_push xs entered d k (omega (arith, lt, last, length_push xs entered)))

-- none
free_none : (p : Text → ℕ) (xs : List Scope) → length xs ≡ 0 → AreFreeFrom p xs
free_none p xs none = λ n k d le lt. absurd (omega (arith, none, lt))

-- past the end nothing is said
pub bare_end : (p : ℕ) (xs : List Scope) → length xs ≤ p → AreBare p xs
bare_end p xs end = λ n k d le lt. absurd (omega (arith, end, le, lt))

-- the scope on top changed
pub bare_top : (p : ℕ) (xs : List Scope) (i : ℕ) (w : Scope) → length xs ≤ p → AreBare p (set xs i w)
bare_top p xs i w end = bare_end p (set xs i w) (let len = length-set xs i w in omega (arith, end, len))

-- the scopes below, whose end may be a lower place
bare_below : (p r : ℕ) (xs ys zs : List Scope) → zs ≡ xs ++ ys → min p (length xs) ≤ r → AreBare p zs → AreBare r xs
bare_below p r xs ys zs is lower bare = λ n k d le lt.
    let high : p ≤ k = omega (arith, lower, le, lt) in
    free_below (λ m. p) xs ys zs is bare n k d high lt

-- ---- places that are raised

pub slot_within : (n : Text) → slot n < 64
slot_within n = mod-lt ((get_or n 0 0 + 4 * get_or n (length n - 1) 0) + length n) (omega arith)

-- all are
pub all_raised : (Q : Text → Type 0) (p : ℕ) (old new : List ℕ) → ((n : Text) → place_at new n ≡ p) → IsRaised Q p old new
all_raised Q p old new all = λ n lt. absurd (omega (arith, all n, lt))

-- those of the slots up to one more are
pub one_more_raised : (p s : ℕ) (ps : List ℕ) → s < length ps → ((n : Text) → slot n < s → place_at ps n ≡ p) → (n : Text) → slot n < s + 1
    → place_at (set ps s p) n ≡ p
one_more_raised p s ps within were n lt = here (cases_lt (slot n) s)
  where
    here : (slot n < s) ⊎ (s ≤ slot n) → place_at (set ps s p) n ≡ p
    here (inl below) = get_or-set_other ps s (slot n) p 0 (λ e. omega (arith, e, below)) ∙ were n below
    here (inr high) =
        let same : slot n ≡ s = omega (arith, lt, high) in
        ap (λ i. get_or (set ps s p) i 0) same ∙ get_or-set_same ps s p 0 within

other_slot : (n m : Text) → (slot n ≡ slot m → ⊥) → text_eq n m ≡ false
other_slot n m differ = false_from_ne_true (text_eq n m) (λ e. differ (ap slot (same_name n m e)))

-- that of one more name is
pub one_raised : (Q S : Text → Type 0) (p s : ℕ) (old ps : List ℕ) (m : Text) → length ps ≡ 64 → s ≡ slot m → IsRaised Q p old ps
    → ((n : Text) → text_eq n m ≡ false → Q n → S n) → IsRaised S p old (set ps s p)
one_raised Q S p s old ps m len is raised more = λ n lt.
    let within : s < length ps = subst (λ i. i < length ps) (sym is) (subst (λ i. slot m < i) (sym len) (slot_within m)) in
    let differ : slot n ≡ slot m → ⊥ = λ same.
    let there : get_or (set ps s p) (slot n) 0 ≡ p = ap (λ i. get_or (set ps s p) i 0) (same ∙ sym is) ∙ get_or-set_same ps s p 0 within in
    omega (arith, lt, there) in
    let kept : place_at (set ps s p) n ≡ place_at ps n = get_or-set_other ps s (slot n) p 0 (λ e. differ (e ∙ is)) in
    let had = raised n (omega (arith, kept, lt)) in
    (kept ∙ had.0, more n (other_slot n m differ) had.1)

none_other : {Y : Type 0} (f : Y → List Text) (o : Option Y) → is_some o ≡ false → option_map f o ≡ None
none_other f None e = refl
none_other f (Some y) e = absurd (cc)

-- a scope of these names and links, which has no others
pub named_raised : {Y : Type 0} (f : Y → List Text) (o : Option Y) (ns ms : List Text) (ls ks : List (Text × Text)) (ts : NamedTrees) (s : Scope) (p : ℕ)
    (old mid new : List ℕ) → is_some o ≡ false → scope_of ns (option_map f o) ls ts ≡ s → ms ≡ ns → ks ≡ ls
    → IsRaised (λ n. is_among ms n ≡ false) p old mid → IsRaised (λ n. lookup (text_eq n) ks ≡ None) p mid new → IsRaised (λ n. passed s n ≡ Some n) p old new
named_raised f o ns ms ls ks ts s p old mid new none seen names_are links_are names links = λ n lt.
    let two = links n lt in
    let one = names n (omega (arith, two.0, lt)) in
    let o' = option_map f o in
    let lacks : (is_among ns n || is_other o' n) ≡ false =
    ap (λ l. is_among l n || is_other o' n) (sym names_are) ∙ ap (λ b. b || is_other o' n) one.1 ∙ ap (λ q. is_other q n) (none_other f o none) in
    let kept : passed (scope_of ns o' ls ts) n ≡ Some n =
    ap (λ b. cond b None (Some (unwrap_or (lookup (text_eq n) ls) n))) lacks
    ∙ ap (λ l. Some (unwrap_or (lookup (text_eq n) l) n)) (sym links_are) ∙ ap (λ q. Some (unwrap_or q n)) two.1 in
    (two.0 ∙ one.0, ap (λ t. passed t n) (sym seen) ∙ kept)

none_on_top : (xs : List Scope) → slice_get xs (length xs - 1) ≡ None → length xs ≡ 0
none_on_top [] e = refl
none_on_top (x ∷ xs) e =
    let i = length (x ∷ xs) - 1 in
    let some : slice_get (x ∷ xs) i ≡ Some (get_or (x ∷ xs) i x) = slice_get-get_or (x ∷ xs) i x (omega arith) in
    absurd (cc)

-- with no scope on top there is nothing to say
pub no_top : (xs : List Scope) (Q : Text → Type 0) (ps : List ℕ) → slice_get xs (length xs - 1) ≡ None → IsRaised Q (length xs) ps ps
no_top xs Q ps none = λ n lt. absurd (let empty = none_on_top xs none in omega (arith, lt, empty))

-- those of the names of this scope, which is on top
pub of_top : (xs : List Scope) (t : Scope) (p : ℕ) (old new : List ℕ) → Some t ≡ slice_get xs (length xs - 1) → p ≡ length xs
    → IsRaised (λ n. passed t n ≡ Some n) p old new → IsRaised (IsFree (length xs - 1) xs) (length xs) old new
of_top xs t p old new top is raised = λ n lt.
    let had = raised n (omega (arith, lt, is)) in
    (had.0, λ k d le in_xs. ap (λ s. passed s n) (on_top k d le in_xs) ∙ had.1)
  where
    on_top : (k : ℕ) (d : Scope) → length xs - 1 ≤ k → k < length xs → get_or xs k d ≡ t
    on_top k d le lt =
        let last : k ≡ length xs - 1 = omega (arith, le, lt) in
        let found : Some (get_or xs k d) ≡ Some t = sym (slice_get-get_or xs k d lt) ∙ ap (slice_get xs) last ∙ sym top in
        cc

-- then names are free from the places
pub top_raised : (ps qs : List ℕ) (xs ys : List Scope) → ((k : ℕ) (d : Scope) → k < length ys - 1 → (k < length xs) × (get_or ys k d ≡ get_or xs k d))
    → AreFree ps xs → IsRaised (IsFree (length ys - 1) ys) (length ys) ps qs → AreFree qs ys
top_raised ps qs xs ys same free raised = λ n k d le lt.
    here n k d le lt (raised n (omega (arith, le, lt))) (cases_lt k (length ys - 1))
  where
    here : (n : Text) (k : ℕ) (d : Scope) → place_at qs n ≤ k → k < length ys → (place_at qs n ≡ place_at ps n) × IsFree (length ys - 1) ys n
        → (k < length ys - 1) ⊎ (length ys - 1 ≤ k) → passed (get_or ys k d) n ≡ Some n
    here n k d le lt had (inl below) =
        let old = same k d below in
        ap (λ s. passed s n) old.1 ∙ free n k d (omega (arith, had.0, le)) old.0
    here n k d le lt had (inr top) = had.1 k d top lt

-- the scope on top changed, and one more
pub set_top : (xs : List Scope) (i : ℕ) (w : Scope) → i + 1 ≡ length xs → (k : ℕ) (d : Scope) → k < length (set xs i w) - 1
    → (k < length xs) × (get_or (set xs i w) k d ≡ get_or xs k d)
set_top xs i w at k d lt =
    let len = length-set xs i w in
    (omega (arith, lt, len, at), get_or-set_other xs i k w d (λ e. omega (arith, e, lt, len, at)))

pub push_top : (xs : List Scope) (s : Scope) (k : ℕ) (d : Scope) → k < length (xs ++ s ∷ []) - 1 → (k < length xs) × (get_or (xs ++ s ∷ []) k d ≡ get_or xs k d)
push_top xs s k d lt =
    let low : k < length xs = omega (arith, lt, length_push xs s) in
    (low, get_or_append_left xs (s ∷ []) d k low)

-- ---- a scope that a call may have changed

-- a change of trees
free_put : {T E : Type 0} (r : Result T E) (p : Text → ℕ) (xs : List Scope) (i : ℕ) (w x y : Scope) → OnOk r (w ≡ y) → OnErr r (w ≡ x)
    → ((n : Text) → passed y n ≡ passed x n) → x ≡ get_or xs i x → AreFreeFrom p xs → AreFreeFrom p (set xs i w)
free_put (Ok u) p xs i w x y ok err same is free = free_set p xs i w x is (λ n. ap (λ s. passed s n) ok ∙ same n) free
free_put (Err u) p xs i w x y ok err same is free = free_set p xs i w x is (λ n. ap (λ s. passed s n) err) free

abbrev put_back : Text → List Text → Tree → Scope → Scope
put_back m k t s = with_tree m (without t k) s

pub killed_passes : (m : Text) (k : List Text) (o : Option Tree) (s : Scope) (n : Text) → passed (kill_in m k o s) n ≡ passed s n
killed_passes m k None s n = refl
killed_passes m k (Some t) s n = here (is_bare (tree_in (put_back m k t s) m))
  where
    here : (b : Bool)
        → passed (cond b (record (put_back m k t s) { trees = retain_keys (put_back m k t s).trees (λ q. not (text_eq m q)) }) (put_back m k t s)) n
        ≡ passed s n
    here true = refl
    here false = refl

-- ---- where lookups begin, by both

abbrev pub AreBoth : List ℕ → ℕ → List Scope → Type 0
AreBoth ps p xs = AreFree ps xs × AreBare p xs

pub both_put : {T E : Type 0} (r : Result T E) (ps : List ℕ) (p : ℕ) (xs : List Scope) (i : ℕ) (w x y : Scope) → OnOk r (w ≡ y) → OnErr r (w ≡ x)
    → ((n : Text) → passed y n ≡ passed x n) → x ≡ get_or xs i x → AreBoth ps p xs → AreBoth ps p (set xs i w)
both_put r ps p xs i w x y ok err same is both =
    (free_put r (place_at ps) xs i w x y ok err same is both.0, free_put r (λ n. p) xs i w x y ok err same is both.1)

pub both_killed : (ps : List ℕ) (p : ℕ) (names : List Text) (xs ys : List Scope) → ys ≡ killed_up names xs → AreBoth ps p xs → AreBoth ps p ys
both_killed ps p names xs ys is both = (free_killed (place_at ps) names xs ys is both.0, free_killed (λ n. p) names xs ys is both.1)

pub both_below : (ps : List ℕ) (p r : ℕ) (xs ys zs : List Scope) → zs ≡ xs ++ ys → min p (length xs) ≤ r → AreBoth ps p zs → AreBoth ps r xs
both_below ps p r xs ys zs is lower both = (free_below (place_at ps) xs ys zs is both.0, bare_below p r xs ys zs is lower both.1)

pub both_entered : (ps : List ℕ) (p : ℕ) (xs ys : List Scope) → ys ≡ xs ++ entered ∷ [] → AreBoth ps p xs → AreBoth ps p ys
both_entered ps p xs ys is both = subst (AreBoth ps p) (sym is) (free_entered (place_at ps) xs both.0, free_entered (λ n. p) xs both.1)

pub both_none : (ps : List ℕ) (p : ℕ) (xs : List Scope) → length xs ≡ 0 → AreBoth ps p xs
both_none ps p xs none = (free_none (place_at ps) xs none, free_none (λ n. p) xs none)
