-- SPDX-License-Identifier: Apache-2.0
-- The subscript that bytes begin with.
use Rattle.mkey.proofs.KeyWords.{ℕ, zero, suc, ◌≡◌, ◌+◌, ◌^◌, ◌<◌, ◌≤◌, Option, Some, None, List, [], ◌∷◌, ◌++◌, length, take, drop, refl, sym, ◌∙◌, ap, subst}
use Rattle.mkey.proofs.KeyWords.{arith, length-append, add-one, ◌%◌, ℤ, unsigned_abs, nat_cmp, Equal, take-append_seam, tied_itself, nat_cmp_total, big_endian}
use Rattle.mkey.proofs.KeyWords.{raised, number_bytes, text_bytes, subscript_by, subscript_bytes, IsNumber, numeric_value, number_text, IsCanonical}
use Rattle.mkey.proofs.KeyWords.{canonical_value, bytes_order, raised_below, raised_order, same_bytes, text_split, both_Equal, canonical_of_value}
use Rattle.mkey.proofs.KeyWords.{value_of_canonical, IsFront, BeginsWithNo, BeginsWithNumber, IsSub, take-append-drop, Text}
use Rattle.std.specs.FinMap.{nat_cmp-IsAntisymmetric, int_cmp-IsAntisymmetric}
use Rattle.mspec.proofs.TextLaws.{text_has_value, value_is_number, canonical_by_more_digits}
use Rattle.mkey.proofs.ShortTexts.{value_fits}

abbrev NoSub : ℕ → List ℕ → Type 0
NoSub kept bytes = BeginsWithNo IsSub (subscript_bytes kept) bytes

-- ---- numbers

pub length-big_endian : (k n : ℕ) → length (big_endian k n) ≡ k
length-big_endian zero n = refl
length-big_endian (suc k) n = ap suc (length-big_endian k (n % 256 ^ k))

same_number : (n m : ℕ) → n < 256 ^ 16 → m < 256 ^ 16 → big_endian 16 n ≡ big_endian 16 m → n ≡ m
same_number n m below_n below_m e =
    let tied = both_Equal (nat_cmp n m) Equal (sym (bytes_order 16 n m [] [] below_n below_m) ∙ same_bytes _ _ (ap (λ b. b ++ []) e)) in
    nat_cmp-IsAntisymmetric n m tied.0

same_raised : (u v : ℤ) → unsigned_abs u < 10 ^ 36 → unsigned_abs v < 10 ^ 36 → raised u ≡ raised v → u ≡ v
same_raised u v below_u below_v e =
    int_cmp-IsAntisymmetric u v (sym (raised_order u v below_u below_v) ∙ ap (nat_cmp (raised u)) (sym e) ∙ tied_itself nat_cmp_total (raised u))

-- a subscript whose bytes begin with 1
record IsNumeric (kept : ℕ) (s : Text) (rest more : List ℕ) : Type 0 where
  value : ℤ
  canonical : canonical_value kept s ≡ Some value
  bytes : rest ≡ number_bytes value ++ more

numeric : (kept : ℕ) (s : Text) (rest more : List ℕ) → 1 ∷ rest ≡ subscript_bytes kept s ++ more → IsNumeric kept s rest more
numeric kept s rest more e = by_value (canonical_value kept s) refl e
  where
    by_value : (o : Option ℤ) → canonical_value kept s ≡ o → 1 ∷ rest ≡ subscript_by s o ++ more → IsNumeric kept s rest more
    by_value (Some u) is e = record { value = u; canonical = is; bytes = cc }
    by_value None is e = let no : ◌≡◌ {A = ℕ} 1 2 = cc in absurd (omega (arith, no))

-- its number's bytes are the first sixteen
number_in_front : (u : ℤ) (rest more : List ℕ) → rest ≡ number_bytes u ++ more → (take 16 rest ≡ big_endian 16 (raised u)) × (16 ≤ length rest)
unfolding number_bytes
number_in_front u rest more e = (
  ap (take 16) e ∙ ap (λ k. take k (big_endian 16 (raised u) ++ more)) (sym (length-big_endian 16 (raised u))) ∙ take-append_seam (big_endian 16 (raised u)) more,
  omega (arith, ap length e, length-append (big_endian 16 (raised u)) more, length-big_endian 16 (raised u)),
)

pub too_short : (kept : ℕ) (rest : List ℕ) → length rest < 16 → NoSub kept (1 ∷ rest)
too_short kept rest short s more is e =
    let at = numeric kept s rest more e in
    let front = number_in_front at.value rest more at.bytes in
    omega (arith, front.1)

-- the number that the sixteen bytes are is that of each subscript that they begin
its_number : (kept : ℕ) (rest : List ℕ) (n : ℕ) → big_endian 16 n ≡ take 16 rest → n < 256 ^ 16 → (s : Text) (more : List ℕ) → 1 ∷ rest ≡ subscript_bytes kept s ++ more → (u : ℤ) × (canonical_value kept s ≡ Some u) × (raised u ≡ n)
its_number kept rest n is below s more e =
    let at = numeric kept s rest more e in
    let front = number_in_front at.value rest more at.bytes in
    let fits = value_fits kept s at.value at.canonical in
    (at.value, at.canonical, same_number (raised at.value) n (raised_below at.value fits) below (sym front.0 ∙ sym is))

pub no_number : (kept : ℕ) (rest : List ℕ) (n : ℕ) → 0 < kept → big_endian 16 n ≡ take 16 rest → n < 256 ^ 16 → ((u : ℤ) → IsNumber kept u → raised u ≡ n → ⊥) → NoSub kept (1 ∷ rest)
no_number kept rest n some is below none s more sub e =
    let at = its_number kept rest n is below s more e in
    none at.0 (value_is_number kept s at.0 some (canonical_of_value kept s at.0 at.1).0) at.2

no_such_sub : (kept : ℕ) (rest : List ℕ) (n : ℕ) (v : ℤ) → big_endian 16 n ≡ take 16 rest → n < 256 ^ 16 → raised v ≡ n → unsigned_abs v < 10 ^ 36 → ((s : Text) → IsSub s → canonical_value kept s ≡ Some v → ⊥) → NoSub kept (1 ∷ rest)
no_such_sub kept rest n v is below raised_v fits none s more sub e =
    let at = its_number kept rest n is below s more e in
    let same : at.0 ≡ v = same_raised at.0 v (value_fits kept s at.0 at.1) fits (at.2 ∙ sym raised_v) in
    none s sub (at.1 ∙ ap Some same)

number_found : (kept : ℕ) (rest : List ℕ) (n : ℕ) (v : ℤ) (s : Text) → 16 ≤ length rest → big_endian 16 n ≡ take 16 rest → raised v ≡ n → canonical_value kept s ≡ Some v → IsFront (1 ∷ rest) (subscript_bytes kept s) 17
unfolding number_bytes
number_found kept rest n v s long is raised_v canonical =
    let bytes : subscript_bytes kept s ≡ 1 ∷ take 16 rest = ap (subscript_by s) canonical ∙ ap (λ m. 1 ∷ big_endian 16 m) raised_v ∙ ap (λ b. 1 ∷ b) is in
    record { fits = omega arith; is = sym (ap (λ b. b ++ drop 16 rest) bytes ∙ ap (λ b. 1 ∷ b) (take-append-drop 16 rest)) }

-- the same of bytes that begin with a number's
pub no_such_number : (kept : ℕ) (rest : List ℕ) (v : ℤ) → BeginsWithNumber v rest → unsigned_abs v < 10 ^ 36 → ((s : Text) → IsSub s → canonical_value kept s ≡ Some v → ⊥) → NoSub kept (1 ∷ rest)
unfolding number_bytes
no_such_number kept rest v front fits none = no_such_sub kept rest (raised v) v front.is (raised_below v fits) refl fits none

pub number_begins : (kept : ℕ) (rest : List ℕ) (v : ℤ) (s : Text) → BeginsWithNumber v rest → canonical_value kept s ≡ Some v → IsFront (1 ∷ rest) (subscript_bytes kept s) 17
unfolding number_bytes
number_begins kept rest v s front canonical = number_found kept rest (raised v) v s front.fits front.is refl canonical

-- if fewer digits are kept, fewer texts are numbers, and these have the bytes that they have if more are kept
pub no_number_of_more : (fewer more : ℕ) (rest : List ℕ) → 0 < fewer → fewer ≤ more → NoSub more (1 ∷ rest) → NoSub fewer (1 ∷ rest)
no_number_of_more fewer more rest some few none s behind sub e =
    let at = numeric fewer s rest behind e in
    let is = canonical_of_value fewer s at.value at.canonical in
    let canonical = canonical_by_more_digits fewer more s some few (record { number = at.value; value = is.0; text = is.1 }) in
    none s behind sub (ap (λ b. 1 ∷ b) at.bytes ∙ ap (λ o. subscript_by s o ++ behind) (sym (value_of_canonical more s canonical.0 ∙ same_canonical fewer more s at.value is.0 canonical)))
  where
    same_canonical : (fewer more : ℕ) (s : Text) (u : ℤ) → numeric_value fewer s ≡ Some u → (canonical : IsCanonical more s × (numeric_value more s ≡ numeric_value fewer s)) → Some canonical.0.number ≡ Some u
    same_canonical fewer more s u value canonical = sym canonical.0.value ∙ canonical.1 ∙ value

-- the text of a number is the one text with it as its value
pub text_of_number : (kept : ℕ) (t : Text) (v : ℤ) → IsNumber kept v → t ≡ number_text v → canonical_value kept t ≡ Some v
text_of_number kept t v number is =
    ap (canonical_value kept) is ∙ value_of_canonical kept (number_text v) (record { number = v; value = text_has_value kept v number; text = refl })

pub no_other_text : (kept : ℕ) (t : Text) (v : ℤ) → t ≡ number_text v → (IsSub t → ⊥) → (s : Text) → IsSub s → canonical_value kept s ≡ Some v → ⊥
no_other_text kept t v is other s sub canonical = other (subst IsSub (sym (canonical_of_value kept s v canonical).1 ∙ sym is) sub)

-- and it is canonical
pub canonical_text : (kept : ℕ) (t : Text) (v : ℤ) → t ≡ number_text v → IsNumber kept v → IsCanonical kept t
canonical_text kept t v is number = subst (IsCanonical kept) (sym is) (record { number = v; value = text_has_value kept v number; text = refl })

-- a text of a number has the number as its value if it is canonical
pub text_where_canonical : (kept : ℕ) (t : Text) (v : ℤ) → t ≡ number_text v → IsNumber 18 v → 0 < kept → kept ≤ 18 → IsCanonical kept t → canonical_value kept t ≡ Some v
text_where_canonical kept t v is number some few canonical =
    let more = canonical_by_more_digits kept 18 t some few canonical in
    value_of_canonical kept t canonical ∙ sym canonical.value ∙ sym more.1 ∙ (canonical_of_value 18 t v (text_of_number 18 t v number is)).0

pub not_canonical : (kept : ℕ) (t : Text) (v : ℤ) → t ≡ number_text v → (IsCanonical kept t → ⊥) → (s : Text) → IsSub s → canonical_value kept s ≡ Some v → ⊥
not_canonical kept t v is other s sub canonical =
    let read = canonical_of_value kept s v canonical in
    other (subst (IsCanonical kept) (sym (is ∙ read.1)) (record { number = v; value = read.0; text = read.1 }))

-- ---- texts

-- a subscript whose bytes begin with 2
record IsOther (kept : ℕ) (s : Text) (rest more : List ℕ) : Type 0 where
  none : canonical_value kept s ≡ None
  bytes : rest ≡ text_bytes s ++ more

other : (kept : ℕ) (s : Text) (rest more : List ℕ) → 2 ∷ rest ≡ subscript_bytes kept s ++ more → IsOther kept s rest more
other kept s rest more e = by_value (canonical_value kept s) refl e
  where
    by_value : (o : Option ℤ) → canonical_value kept s ≡ o → 2 ∷ rest ≡ subscript_by s o ++ more → IsOther kept s rest more
    by_value (Some u) is e = let no : ◌≡◌ {A = ℕ} 2 1 = cc in absurd (omega (arith, no))
    by_value None is e = record { none = is; bytes = cc }

pub other_letters : (kept : ℕ) (rest : List ℕ) (t : Text) (n : ℕ) → IsFront rest (text_bytes t) n → (IsSub t → canonical_value kept t ≡ None → ⊥) → NoSub kept (2 ∷ rest)
other_letters kept rest t n front none s more sub e =
    let at = other kept s rest more e in
    let same : s ≡ t = (text_split s t more (drop n rest) (sym at.bytes ∙ front.is)).0 in
    none (subst IsSub same sub) (ap (canonical_value kept) (sym same) ∙ at.none)

pub letters_found : (kept : ℕ) (rest : List ℕ) (t : Text) (n : ℕ) → IsFront rest (text_bytes t) n → canonical_value kept t ≡ None → IsFront (2 ∷ rest) (subscript_bytes kept t) (n + 1)
letters_found kept rest t n front none =
    let bytes : subscript_bytes kept t ≡ 2 ∷ text_bytes t = ap (subscript_by t) none in
    let fits : n ≤ length rest = front.fits in
    record {
      fits = omega arith;
      is = ap (λ b. 2 ∷ b) front.is ∙ ap (λ b. b ++ drop n rest) (sym bytes) ∙ ap (λ m. subscript_bytes kept t ++ drop m (2 ∷ rest)) (sym (add-one n));
    }

pub nothing_begins : (kept : ℕ) → NoSub kept []
nothing_begins kept s more sub e = by_value (canonical_value kept s) e
  where
    by_value : (o : Option ℤ) → [] ≡ subscript_by s o ++ more → ⊥
    by_value (Some u) e = absurd (cc)
    by_value None e = absurd (cc)

-- ---- how many bytes a subscript has

pub number_long : (kept : ℕ) (s : Text) (rest more : List ℕ) → 1 ∷ rest ≡ subscript_bytes kept s ++ more → length (subscript_bytes kept s) ≡ 17
unfolding number_bytes
number_long kept s rest more e =
    let at = numeric kept s rest more e in
    ap (λ o. length (subscript_by s o)) at.canonical ∙ ap suc (length-big_endian 16 (raised at.value))
