-- SPDX-License-Identifier: Apache-2.0
-- The local variables of a session: a stack of scopes, the innermost on top.
--
-- Restates "Local variable handling", "NEW", "KILL" and "Parameter passing" of ISO/IEC 11756:1999. A scope has some names by
-- itself: those that NEW gave it, and all but some if NEW listed those in brackets; the scope at the bottom has every name. A
-- variable is that of the topmost scope that has its name. A parameter by reference is a link: a name under which the scopes
-- below know the variable by another name. NEW acts on the top scope alone, so what a link leads to stays the same while its
-- scope is there.
use Rattle.std.specs.Prelude.{Bool, false, not, cond, ◌&&◌, ◌||◌, nat_eq, length, List, [], ◌∷◌, ◌++◌, Option, Some, None, unwrap_or, option_and_then}
use Rattle.std.specs.List.{list_any, filter, flat_map}
use Rattle.std.specs.Map.{lookup, keys_of}
use Rattle.std.specs.Ordering.{nat_cmp}
use Rattle.std.specs.Cmp.Lexicographic.{slice_cmp}
use Rattle.std.specs.FinMap.{FinMap, get, insert, retain_keys, empty, keys}
use Rattle.mspec.specs.Node.{Text}
use Rattle.mspec.specs.Trees.{Tree, text_eq, without, has_value, has_descendants, Direction, order_of, following, front, last}

-- the names that NEW gave it, the names that it lacks if it has all but some, the trees of variables by their names, and its
-- links: a name, and the name that the scopes below have in its place
pub record Scope : Type 0 where
  pub names : List Text
  pub others : Option (List Text)
  pub trees : FinMap (slice_cmp nat_cmp) Tree
  pub links : List (Text × Text)

abbrev pub Scopes : Type 0
Scopes = List Scope

abbrev pub is_among : List Text → Text → Bool
is_among names n = list_any (text_eq n) names

abbrev pub is_other : Option (List Text) → Text → Bool
is_other None n = false
is_other (Some names) n = not (is_among names n)

-- whether a scope has a name by itself
abbrev pub has : Scope → Text → Bool
has s n = is_among s.names n || is_other s.others n

-- a scope without names, and the one at the bottom of a new session
abbrev pub entered : Scope
entered = record { names = []; others = None; trees = empty; links = [] }

abbrev pub bottom : Scope
bottom = record { names = []; others = Some []; trees = empty; links = [] }

-- a name that has no tree yet has the empty one
abbrev pub tree_in : Scope → Text → Tree
tree_in s n = unwrap_or (get s.trees n) empty

abbrev pub with_tree : Text → Tree → Scope → Scope
with_tree n t s = record s { trees = insert s.trees n t }

-- the name that the scopes below have in place of one that a scope has not by itself
abbrev pub linked : Scope → Text → Text
linked s n = unwrap_or (lookup (text_eq n) s.links) n

-- the variable of a name
abbrev pub tree_of : Scopes → Text → Tree
tree_of [] n = empty
tree_of (s ∷ below) n = cond (has s n) (tree_in s n) (tree_of below (linked s n))

-- the scopes with a change of the one that a name's variable belongs to, by the name that it has there
abbrev pub at_home : (Text → Scope → Scope) → Text → Scopes → Scopes
at_home f n [] = []
at_home f n (s ∷ below) = cond (has s n) (f n s ∷ below) (s ∷ at_home f (linked s n) below)

-- whether two names lead to one variable
abbrev pub are_one : Scopes → Text → Text → Bool
are_one [] a b = false
are_one (s ∷ below) a b = cond (has s a) (has s b && text_eq a b) (not (has s b) && are_one below (linked s a) (linked s b))

-- ---- what is asked of a variable, and assigned

abbrev pub value_at : Scopes → Text → List Text → Option Text
value_at scopes n xs = get (tree_of scopes n) xs

abbrev pub is_value : Scopes → Text → List Text → Bool
is_value scopes n xs = has_value (tree_of scopes n) xs

abbrev pub is_above : Scopes → Text → List Text → Bool
is_above scopes n xs = has_descendants (tree_of scopes n) xs

abbrev pub next_subscript : Scopes → Direction → Text → List Text → Option Text
next_subscript scopes direction n xs = order_of (tree_of scopes n) direction (front xs) (last xs)

abbrev pub next_node : Scopes → Direction → Text → List Text → Option (List Text)
next_node scopes direction n xs = following direction xs (keys (tree_of scopes n))

abbrev pub set_in : Text → List Text → Text → Scope → Scope
set_in n xs x s = with_tree n (insert (tree_in s n) xs x) s

abbrev pub assigned : Scopes → Text → List Text → Text → Scopes
assigned scopes n xs x = at_home (λ m. set_in m xs x) n scopes

-- ---- KILL

-- a name whose tree has no text left is dropped with its tree
abbrev pub is_bare : Tree → Bool
is_bare t = nat_eq (length (keys t)) 0

abbrev pub tidied : Text → Scope → Scope
tidied n s = cond (is_bare (tree_in s n)) (record s { trees = retain_keys s.trees (λ m. not (text_eq n m)) }) s

-- a name that has no tree yet stays without one
abbrev pub kill_in : Text → List Text → Option Tree → Scope → Scope
kill_in n xs None s = s
kill_in n xs (Some t) s = tidied n (with_tree n (without t xs) s)

abbrev pub killed : Scopes → Text → List Text → Scopes
killed scopes n xs = at_home (λ m s. kill_in m xs (get s.trees m) s) n scopes

-- the names that are not spared have empty trees
abbrev pub emptied : (Text → Bool) → Scope → Scope
emptied spared s = record s { trees = retain_keys s.trees spared }

-- the name that the scopes below have in place of a name, if the scope has it not by itself
abbrev pub passed : Scope → Text → Option Text
passed s n = cond (has s n) None (Some (linked s n))

-- the same below several scopes, the lowest first
abbrev pub known_below : List Scope → Text → Option Text
known_below [] n = Some n
known_below (s ∷ above) n = option_and_then (passed s) (known_below above n)

abbrev pub is_name : Text → Option Text → Bool
is_name m None = false
is_name m (Some n) = text_eq m n

-- whether a name leads to the variable of a name below these scopes
abbrev pub leads_to : Text → List Scope → Text → Bool
leads_to m above n = is_name m (known_below above n)

-- the names that may lead to the variable of a name below these scopes: that name, and those of links
abbrev pub ways : List Scope → Text → List Text
ways above m = m ∷ flat_map (λ s. keys_of s.links) above

-- a variable below these scopes stays if one of the names leads to it, or if no name at all does
abbrev pub stays : List Text → List Scope → Text → Bool
stays names above m = list_any (leads_to m above) names || not (list_any (leads_to m above) (ways above m))

abbrev pub killed_but : List Text → List Scope → Scopes → Scopes
killed_but names above [] = []
killed_but names above (s ∷ below) = emptied (stays names above) s ∷ killed_but names (s ∷ above) below

-- KILL of all variables that can be seen, except those to which these names lead; without a name, of all
abbrev pub killed_except : List Text → Scopes → Scopes
killed_except names scopes = killed_but names [] scopes

-- ---- NEW

abbrev pub on_top : (Scope → Scope) → Scopes → Scopes
on_top f [] = []
on_top f (s ∷ below) = f s ∷ below

-- the top scope has these names too, with empty trees
abbrev pub hide : List Text → Scope → Scope
hide names s = record s { names = s.names ++ filter (λ n. not (has s n)) names; trees = retain_keys s.trees (λ n. not (is_among names n)) }

abbrev pub newed : List Text → Scopes → Scopes
newed names scopes = on_top (hide names) scopes

-- the names that both lists have; all if there was no old list
abbrev pub common : List Text → Option (List Text) → List Text
common names None = names
common names (Some old) = filter (is_among old) names

-- the top scope has all names but these, and those of these that it had; the trees of the others are empty. A link of one of these
-- stays
abbrev pub hide_others : List Text → Scope → Scope
hide_others names s = record s { others = Some (common names s.others); trees = retain_keys s.trees (is_among names) }

abbrev pub newed_except : List Text → Scopes → Scopes
newed_except names scopes = on_top (hide_others names) scopes

-- ---- levels

abbrev pub with_level : Scopes → Scopes
with_level scopes = entered ∷ scopes

-- what a formal parameter of a level is: a new variable with a value, a link to a variable of the caller, or a new variable
pub data Binding : Type 0 where
  valued : Text → Binding
  linked_to : Text → Binding
  unset : Binding

-- the scope has this name too
abbrev pub named : Text → Scope → Scope
named n s = record s { names = s.names ++ n ∷ [] }

abbrev pub bind : Text → Binding → Scope → Scope
bind n (valued x) s = set_in n [] x (named n s)
bind n (linked_to m) s = record s { links = s.links ++ (n, m) ∷ [] }
bind n unset s = named n s

abbrev pub formals : List (Text × Binding) → Scope → Scope
formals [] s = s
formals (b ∷ bs) s = bind b.0 b.1 (formals bs s)

-- a level with formal parameters, whose names are all different
abbrev pub bound : List (Text × Binding) → Scopes → Scopes
bound bs scopes = formals bs entered ∷ scopes

-- the scope at the bottom stays
abbrev pub without_level : Scopes → Scopes
without_level [] = []
without_level (s ∷ []) = s ∷ []
without_level (s ∷ t ∷ below) = t ∷ below

-- what is left when all levels are closed
abbrev pub outermost : Scopes → Scopes
outermost [] = []
outermost (s ∷ []) = s ∷ []
outermost (s ∷ t ∷ below) = outermost (t ∷ below)
