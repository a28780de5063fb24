-- SPDX-License-Identifier: Apache-2.0
-- The definitions of pieces and of the text functions on examples, as proved equations.
use Rattle.mspec.proofs.SpecWords.{◌≡◌, [], ◌∷◌, Some, None, rules, pos, negsuc, codes, Ok, Err, pieces_of, piece_of, extract_of, find_of, piece_count}
use Rattle.mspec.proofs.SpecWords.{contains, follows, translate_of, justify_of, set_piece_of, has_places, set_extract_of, set_pieces_of, first_place}
use Rattle.mspec.proofs.SpecWords.{with_piece, true, false}
use Rattle.mspec.specs.Code.{Zarg}

record Texts : Type 0 where
  -- pieces
  from_the_left : pieces_of (codes "aa") (codes "aaa") ≡ [] ∷ codes "a" ∷ []
  without_overlap : pieces_of (codes "aa") (codes "aaaa") ≡ [] ∷ [] ∷ [] ∷ []
  of_an_empty_text : pieces_of (codes ",") [] ≡ [] ∷ []
  two_pieces : piece_of (codes "a,b,,d") (codes ",") (Some (pos 2)) (Some (pos 3)) ≡ codes "b,"
  first_by_default : piece_of (codes "a,b") (codes ",") None None ≡ codes "a"
  no_piece_at_zero : piece_of (codes "a,b") (codes ",") (Some (pos 0)) None ≡ []
  raised_to_the_first : piece_of (codes "a,b") (codes ",") (Some (negsuc 4)) (Some (pos 1)) ≡ codes "a"
  no_pieces_by_nothing : piece_of (codes "a") [] (Some (pos 1)) (Some (pos 9)) ≡ []
  counted : piece_count (codes "a,b,,d") (codes ",") ≡ 4
  one_of_an_empty_text : piece_count [] (codes ",") ≡ 1
  none_by_nothing : piece_count (codes "a") [] ≡ 0
  -- characters
  two_characters : extract_of (codes "hello") (Some (pos 2)) (Some (pos 3)) ≡ codes "el"
  no_character_below_one : extract_of (codes "ab") (Some (negsuc 0)) None ≡ []
  characters_from_below_one : extract_of (codes "ab") (Some (negsuc 0)) (Some (pos 1)) ≡ codes "a"
  found_after : find_of (codes "abcabc") (codes "bc") (Some (pos 3)) ≡ 7
  not_found : find_of (codes "abc") (codes "d") None ≡ 0
  nothing_past_the_end : find_of (codes "abc") [] (Some (pos 9)) ≡ 9
  found_from_below_one : find_of (codes "aa") (codes "a") (Some (negsuc 8)) ≡ 2
  contains_itself : contains (codes "ab") (codes "ab") ≡ true
  contains_nothing : contains [] [] ≡ true
  contains_no_other : contains (codes "ab") (codes "ba") ≡ false
  longer_follows : follows (codes "ab") (codes "a") ≡ true
  no_text_follows_itself : follows (codes "a") (codes "a") ≡ false
  lower_case_follows : follows (codes "a") (codes "B") ≡ true
  -- made texts
  translated : translate_of (codes "banana") (codes "an") (codes "o") ≡ Ok (codes "booo")
  translated_by_the_first : translate_of (codes "a") (codes "aba") (codes "123") ≡ Ok (codes "1")
  justified : justify_of (codes "ab") (pos 4) ≡ Ok (codes "  ab")
  not_shortened : justify_of (codes "abc") (pos 2) ≡ Ok (codes "abc")
  padded : set_piece_of (codes "a") (codes "-") (Some (pos 3)) (codes "z") ≡ Ok (codes "a--z")
  replaced : set_piece_of (codes "a,b,c") (codes ",") (Some (pos 2)) (codes "x") ≡ Ok (codes "a,x,c")
  first_of_an_empty_text : set_piece_of [] (codes ",") None (codes "x") ≡ Ok (codes "x")
  place_zero : set_piece_of [] (codes ",") (Some (pos 0)) [] ≡ Err Zarg
  place_past_the_last : set_piece_of [] (codes ",") (Some (pos 501)) [] ≡ Err Zarg
  no_delimiter : set_piece_of [] [] (Some (pos 1)) [] ≡ Err Zarg
  -- ranges of places
  first_character_by_default : set_extract_of (codes "abc") None None (codes "XY") ≡ Ok (codes "XYbc")
  last_character : set_extract_of (codes "abc") (Some (pos 3)) None (codes "q") ≡ Ok (codes "abq")
  characters_replaced : set_extract_of (codes "abcdef") (Some (pos 2)) (Some (pos 4)) (codes "-") ≡ Ok (codes "a-ef")
  characters_below_one : set_extract_of (codes "abcdef") (Some (negsuc 2)) (Some (pos 2)) (codes "-") ≡ Ok (codes "-cdef")
  characters_past_the_end : set_extract_of (codes "abcdef") (Some (pos 5)) (Some (pos 100)) (codes "-") ≡ Ok (codes "abcd-")
  filled_by_spaces : set_extract_of [] (Some (pos 3)) None (codes "q") ≡ Ok (codes "  q")
  spaces_alone : set_extract_of (codes "a") (Some (pos 4)) (Some (pos 9)) [] ≡ Ok (codes "a  ")
  pieces_replaced : set_pieces_of (codes "a,b,c,d") (codes ",") (Some (pos 2)) (Some (pos 3)) (codes "-") ≡ Ok (codes "a,-,d")
  pieces_below_one : set_pieces_of (codes "a,b,c") (codes ",") (Some (negsuc 4)) (Some (pos 2)) (codes "-") ≡ Ok (codes "-,c")
  pieces_past_the_end : set_pieces_of (codes "a,b,c") (codes ",") (Some (pos 3)) (Some (pos 999)) (codes "-") ≡ Ok (codes "a,b,-")
  pieces_filled : set_pieces_of (codes "a") (codes ",") (Some (pos 3)) (Some (pos 4)) (codes "-") ≡ Ok (codes "a,,-")
  pieces_of_an_empty_text : set_pieces_of [] (codes ",") (Some (pos 3)) (Some (pos 4)) (codes "-") ≡ Ok (codes ",,-")
  pieces_by_nothing : set_pieces_of (codes "a") [] (Some (pos 1)) (Some (pos 2)) [] ≡ Err Zarg
  pieces_past_the_last_place : set_pieces_of [] (codes ",") (Some (pos 501)) (Some (pos 501)) [] ≡ Err Zarg
  a_place : has_places (Some (negsuc 4)) (Some (pos 1)) ≡ true
  one_place : has_places None None ≡ true
  no_place : has_places (Some (pos 4)) (Some (pos 2)) ≡ false
  no_place_below_one : has_places (Some (pos 0)) None ≡ false

texts : Texts
unfolding first_place pieces_of with_piece
texts = search rules
