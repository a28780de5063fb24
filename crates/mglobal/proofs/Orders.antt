-- SPDX-License-Identifier: Apache-2.0
-- What is found among the keys of globals, as what $DATA and $ORDER answer.
use Rattle.mglobal.proofs.GlobalWords.{arith, ℕ, ◌≡◌, Bool, true, cond, ◌&&◌, Option, Some, None, option_map, is_some, List, [], ◌∷◌, ◌++◌, map, reverse, All}
use Rattle.mglobal.proofs.GlobalWords.{refl, sym, ◌∙◌, ap, subst, option_and_then, IsSome, entries, keys, list_any, find, filter, All-map, All-head, All-tail}
use Rattle.mglobal.proofs.GlobalWords.{All-nil, All-push, Globals, is_between, is_beside, next_key, status, order_at, key_bytes, IsStored, Text, Node}
use Rattle.mglobal.proofs.GlobalWords.{significant_digits, Direction, Forward, Backward, is_below, children_in, front, last, IsKeyOf, passes, child_under}
use Rattle.mglobal.proofs.GlobalWords.{children_by, find_child, find_last_child, AreHeld, is_onward, BoundsOnward, nearest_key}
use Rattle.std.proofs.lemmas.List.{reverse-append, map-append}

abbrev key : Node → List ℕ
key = key_bytes significant_digits

-- ---- the first of many that passes a test

pub found_map : {A B : Type 0} (f : A → B) (p : B → Bool) (xs : List A) → find p (map f xs) ≡ option_map f (find (λ x. p (f x)) xs)
found_map f p [] = refl
found_map f p (x ∷ xs) = grind (arith, found_map f p xs)

pub found_alike : {A : Type 0} (P : A → Type 0) (p q : A → Bool) → ((x : A) → P x → p x ≡ q x) → (xs : List A) → All P xs → find p xs ≡ find q xs
found_alike P p q alike [] all = refl
found_alike P p q alike (x ∷ xs) all = grind (arith, alike x (All-head P x xs all), found_alike P p q alike xs (All-tail P x xs all))

found_any : {A : Type 0} (p : A → Bool) (xs : List A) → is_some (find p xs) ≡ list_any p xs
found_any p [] = refl
found_any p (x ∷ xs) = grind (arith, found_any p xs)

pub found_one : {A : Type 0} (P : A → Type 0) (p : A → Bool) (xs : List A) → All P xs → (x : A) → find p xs ≡ Some x → P x × (p x ≡ true)
found_one P p [] all x e = absurd (cc)
found_one P p (y ∷ ys) all x e = here (p y) refl e (found_one P p ys (All-tail P y ys all) x)
  where
    here : (b : Bool) → p y ≡ b → cond b (Some y) (find p ys) ≡ Some x → (find p ys ≡ Some x → P x × (p x ≡ true)) → P x × (p x ≡ true)
    here b h e f = grind arith

all_reversed : {A : Type 0} (P : A → Type 0) (xs : List A) → All P xs → All P (reverse xs)
all_reversed P [] all = All-nil P
all_reversed P (x ∷ xs) all = subst (All P) (sym (reverse-append (x ∷ []) xs)) (All-push P (reverse xs) x (all_reversed P xs (All-tail P x xs all)) (All-head P x xs all))

pub map_reversed : {A B : Type 0} (f : A → B) (xs : List A) → reverse (map f xs) ≡ map f (reverse xs)
map_reversed f [] = refl
map_reversed f (x ∷ xs) =
    reverse-append (f x ∷ []) (map f xs) ∙ ap (λ l. l ++ f x ∷ []) (map_reversed f xs) ∙ sym (map-append f (reverse xs) (x ∷ []))
    ∙ ap (map f) (sym (reverse-append (x ∷ []) xs))

pub some_map : {A B : Type 0} (f : A → B) (o : Option A) → is_some o ≡ is_some (option_map f o)
some_map f o = grind arith

-- ---- the nodes of globals

pub all_stored : (g : Globals) → AreHeld g → All IsStored (keys g)
all_stored g held = All-map IsStored (λ e. e.0) (entries g) (λ k d inside. (held k d inside).node)

-- the nodes that a direction begins with first
abbrev pub in_turn : Direction → List Node → List Node
in_turn Forward ks = ks
in_turn Backward ks = reverse ks

pub nearest_is : (d : Direction) (g : Globals) (low high : List ℕ) → nearest_key d g low high ≡ option_map key
    (find (λ m. is_between low high (key m)) (in_turn d (keys g)))
nearest_is Forward g low high = found_map key (is_between low high) (keys g)
nearest_is Backward g low high = ap (find (is_between low high)) (map_reversed key (keys g)) ∙ found_map key (is_between low high) (reverse (keys g))

pub stored_in_turn : (d : Direction) (ks : List Node) → All IsStored ks → All IsStored (in_turn d ks)
stored_in_turn Forward ks all = all
stored_in_turn Backward ks all = all_reversed IsStored ks all

-- ---- $DATA

pub any_below : (n : Node) (ks : List Node) → list_any (is_below n.subscripts) (map (λ m. m.subscripts) (filter (is_beside n) ks)) ≡ list_any (λ m. is_beside n m && is_below n.subscripts m.subscripts) ks
any_below n [] = refl
any_below n (k ∷ ks) = grind (arith, any_below n ks)

pub below_found : (g : Globals) → AreHeld g → (n : Node) (low high : List ℕ) → ((m : Node) → IsStored m → is_between low high (key m) ≡ (is_beside n m && is_below n.subscripts m.subscripts))
    → is_some (next_key g low high) ≡ (status g n).1
below_found g held n low high alike =
    ap is_some (found_map key (is_between low high) (keys g)) ∙ sym (some_map key (find (λ m. is_between low high (key m)) (keys g)))
    ∙ ap is_some (found_alike IsStored (λ m. is_between low high (key m)) (λ m. is_beside n m && is_below n.subscripts m.subscripts) alike (keys g) (all_stored g held))
    ∙ found_any (λ m. is_beside n m && is_below n.subscripts m.subscripts) (keys g) ∙ sym (any_below n (keys g))

-- ---- $ORDER

module _ (n : Node) where
  abbrev above : Node
  above = record { account = n.account; name = n.name; subscripts = front n.subscripts }

  children_are : (ks : List Node) → children_in (map (λ m. m.subscripts) (filter (is_beside n) ks)) (front n.subscripts) ≡ children_by (child_under above) ks
  children_are [] = refl
  children_are (k ∷ ks) = grind (arith, children_are ks)

  pub order_is : (d : Direction) (g : Globals) → order_at g d n ≡ option_and_then (child_under above) (find (λ m. passes (is_onward d (last n.subscripts)) (child_under above m)) (in_turn d (keys g)))
  order_is Forward g = grind (arith, children_are, find_child)
  order_is Backward g = grind (arith, children_are, find_last_child)

  -- the key is that of a node whose subscript there is the answer
  pub record IsOfNext (d : Direction) (g : Globals) (bytes : List ℕ) : Type 0 where
    pub node : Node
    pub is : IsKeyOf node bytes
    pub order : order_at g d n ≡ child_under above node
    pub some : IsSome (child_under above node)

  module _ (d : Direction) (g : Globals) (held : AreHeld g) (low high : List ℕ) (bounds : BoundsOnward d above (last n.subscripts) low high) where
    test : Node → Bool
    test m = passes (is_onward d (last n.subscripts)) (child_under above m)

    stored : All IsStored (in_turn d (keys g))
    stored = stored_in_turn d (keys g) (all_stored g held)

    found : nearest_key d g low high ≡ option_map key (find test (in_turn d (keys g)))
    unfolding test
    found = nearest_is d g low high ∙ ap (option_map key) (found_alike IsStored (λ m. is_between low high (key m)) test bounds (in_turn d (keys g)) stored)

    ordered : order_at g d n ≡ option_and_then (child_under above) (find test (in_turn d (keys g)))
    unfolding test
    ordered = order_is d g

    pub none_next : None ≡ nearest_key d g low high → None ≡ order_at g d n
    none_next e = grind (arith, find, e, found, ordered)

    some_passed : (p : Text → Bool) (o : Option Text) → passes p o ≡ true → IsSome o
    some_passed p o h = grind arith

    pub one_next : (bytes : List ℕ) → Some bytes ≡ nearest_key d g low high → IsOfNext d g bytes
    unfolding test
    one_next bytes e = here (find test (in_turn d (keys g))) refl (e ∙ found)
      where
        here : (o : Option Node) → find test (in_turn d (keys g)) ≡ o → Some bytes ≡ option_map key o → IsOfNext d g bytes
        here None is e = absurd (cc)
        here (Some m) is e =
            let one = found_one IsStored test (in_turn d (keys g)) stored m is in
            let same : bytes ≡ key m = cc in
            record { node = m; is = (one.0, sym same); order = ordered ∙ ap (option_and_then (child_under above)) is; some = some_passed (is_onward d (last n.subscripts)) (child_under above m) one.1 }
