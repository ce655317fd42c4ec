-- A frame opens as what it was made of, and what opens is the frame of what it holds.
use Rattle.std.proofs.Common.{◌≡◌, ℕ, suc, ◌+◌, ◌-◌, ◌*◌, ◌/◌, ◌%◌, ◌^◌, ◌<◌, ◌≤◌, true, cond, eqb, List, [], ◌∷◌, ◌++◌, length, get_or, take, drop, Ok, sym, refl, ap, ◌∙◌, subst, ap₂, ⊎_elim, arith}
use Rattle.std.proofs.lemmas.List.{length-take-le, length-drop, take_at, take-append-drop, get_or-append_right, get_or-append-add, get_or-drop, nil_from_length}
use Rattle.std.proofs.lemmas.Bool.{eq-eqb, ne_eqb, eqb-true, cond-false, cond-true, cases_eq}
use Rattle.std.proofs.lemmas.Bool.Decides.{nat_tests}
use Rattle.checksum.specs.Crc.{crc}
use Rattle.checksum.proofs.Bounds.{crc_lt}
use Rattle.commands.specs.Fields.{two, bytes_of_two, Bytes}
use Rattle.frame.specs.Layout.{Held, total, check_bytes, framed, length_field, data_field, intact, opened}
use Rattle.frame.proofs.Puts.{length_framed}

-- what makes some bytes open
pub opens : (head most : ℕ) (f : List ℕ) → 4 ≤ length f → get_or f 0 0 ≡ head → length_field f ≤ most → length f ≡ total (length_field f) → intact f ≡ true
    → opened head most f ≡ Ok (record { tag = get_or f 1 0; at = 4; bytes = data_field f })
opens head most f a b c d e = grind (arith, nat_tests)

-- two bytes behind a list, as a field
field_behind : (xs : List ℕ) (x y k : ℕ) → length xs ≡ k → two (xs ++ x ∷ y ∷ []) k ≡ x * 256 + y
field_behind xs x y k e =
    let ys : List ℕ = x ∷ y ∷ [] in
    let here : k - k ≡ 0 = omega arith in
    let next : k + 1 - k ≡ 1 = omega arith in
    ap₂ (λ (a b : ℕ). a * 256 + b)
    (get_or-append_right xs ys k k 0 e (omega arith) ∙ ap (λ (i : ℕ). get_or ys i 0) here)
    (get_or-append_right xs ys k (k + 1) 0 e (omega arith) ∙ ap (λ (i : ℕ). get_or ys i 0) next)

-- a number below 2^16, written as two bytes and read
pub two_back : (n : ℕ) → n < 2 ^ 16 → n / 256 % 256 * 256 + n % 256 ≡ n
two_back n h = omega arith

module _ (head tag : ℕ) (d : List ℕ) (bytes : Bytes d) (few : length d ≤ 65535) where
  framed_length : length_field (framed head tag d) ≡ length d
  framed_length = two_back (length d) (omega arith)

  framed_data : data_field (framed head tag d) ≡ d
  framed_data =
      ap (λ (n : ℕ). take n (d ++ check_bytes d)) framed_length ∙ take_at d (check_bytes d) (length d) refl

  -- the checksum at the end, where there is one
  framed_check : (length d ≡ 0 → ⊥) → two (framed head tag d) (4 + length d) ≡ crc d
  framed_check some =
      let front : List ℕ = head ∷ tag ∷ length d / 256 % 256 ∷ length d % 256 ∷ d in
      ap (λ c. two (front ++ c) (4 + length d)) (cond-false _ _ _ (ne_eqb (length d) 0 some))
      ∙ field_behind front (crc d / 256 % 256) (crc d % 256) (4 + length d) (omega arith)
      ∙ two_back (crc d) (crc_lt d bytes)

  framed_intact : intact (framed head tag d) ≡ true
  framed_intact =
      let f = framed head tag d in
      ⊎_elim
      (λ (e : length d ≡ 0). cond-true _ _ _ (eq-eqb (length_field f) 0 (framed_length ∙ e)))
      (λ (ne : length d ≡ 0 → ⊥).
      cond-false (eqb (length_field f) 0) _ _ (ne_eqb (length_field f) 0 (λ z. ne (sym framed_length ∙ z)))
      ∙ eq-eqb (two f (4 + length_field f)) (crc (data_field f))
      (ap (λ (n : ℕ). two f (4 + n)) framed_length ∙ framed_check ne ∙ sym (ap crc framed_data)))
      (cases_eq (length d) 0)

  -- the frame of a tag and of data opens as them
  pub opened_framed : (most : ℕ) → length d ≤ most → opened head most (framed head tag d) ≡ Ok (record { tag = tag; at = 4; bytes = d })
  opened_framed most m =
      let f = framed head tag d in
      opens head most f (omega arith) refl (omega (arith, framed_length)) (length_framed head tag d ∙ ap total (sym framed_length)) framed_intact
      ∙ ap (λ b. Ok (record { tag = tag; at = 4; bytes = b })) framed_data

-- a list of two numbers
two_left : (xs : List ℕ) → length xs ≡ 2 → xs ≡ get_or xs 0 0 ∷ get_or xs 1 0 ∷ []
two_left [] e = absurd (omega arith)
two_left (x ∷ []) e = absurd (omega arith)
two_left (x ∷ y ∷ []) e = refl
two_left (x ∷ y ∷ z ∷ xs) e = absurd (omega arith)

-- two bytes are the two bytes of their number
bytes_back : (x y n : ℕ) → x < 256 → y < 256 → x * 256 + y ≡ n → (x ∷ y ∷ []) ≡ bytes_of_two n
bytes_back x y n hx hy e =
    let high : x ≡ n / 256 % 256 = omega arith in
    let low : y ≡ n % 256 = omega arith in
    λ j. high j ∷ low j ∷ []

-- what is left of a frame behind its data is their checksum
check_back : (rest : List ℕ) (n : ℕ) → Bytes rest → length rest + 4 ≡ total n → cond (eqb n 0) true (eqb (get_or rest n 0 * 256 + get_or rest (n + 1) 0) (crc (take n rest))) ≡ true
    → drop n rest ≡ check_bytes (take n rest)
check_back rest n bytes e k =
    ⊎_elim
    (λ (z : n ≡ 0).
    let none : length rest ≡ 0 = grind (arith, nat_tests) in
    let nil : rest ≡ [] = nil_from_length rest none in
    nil_from_length (drop n rest) (length-drop n rest ∙ omega arith)
    ∙ sym (cond-true _ _ _ (eq-eqb (length (take n rest)) 0 (ap (λ r. length (take n r)) nil ∙ ap (λ (m : ℕ). length (take {A = ℕ} m [])) z))))
    (λ (ne : n ≡ 0 → ⊥).
    let l : length rest ≡ n + 2 = grind (arith, nat_tests) in
    let taken : length (take n rest) ≡ n = length-take-le n rest (omega arith) in
    let left : length (drop n rest) ≡ 2 = length-drop n rest ∙ omega arith in
    let first : get_or (drop n rest) 0 0 ≡ get_or rest n 0 = get_or-drop n rest 0 0 ∙ ap (λ (i : ℕ). get_or rest i 0) (omega arith) in
    let second : get_or (drop n rest) 1 0 ≡ get_or rest (n + 1) 0 = get_or-drop n rest 1 0 in
    let same : get_or rest n 0 * 256 + get_or rest (n + 1) 0 ≡ crc (take n rest) = eqb-true _ _ (sym (cond-false (eqb n 0) true _ (ne_eqb n 0 ne)) ∙ k) in
    two_left (drop n rest) left
    ∙ (λ j. first j ∷ second j ∷ [])
    ∙ bytes_back (get_or rest n 0) (get_or rest (n + 1) 0) (crc (take n rest)) (bytes n) (bytes (n + 1)) same
    ∙ sym (cond-false _ _ _ (ne_eqb (length (take n rest)) 0 (λ q. ne (sym taken ∙ q)))))
    (cases_eq n 0)

-- what opens has the head, a length within the limit, as many bytes as it says, and its checksum
pub record Opens (head most : ℕ) (f : List ℕ) (h : Held) : Type 0 where
  pub headed : get_or f 0 0 ≡ head
  pub short : length_field f ≤ most
  pub whole : length f ≡ total (length_field f)
  pub checked : intact f ≡ true
  pub holds : h ≡ record { tag = get_or f 1 0; at = 4; bytes = data_field f }

pub opened_opens : (head most : ℕ) (f : List ℕ) (h : Held) → opened head most f ≡ Ok h → Opens head most f h
opened_opens head most f h e = record {
  headed = grind (arith, nat_tests);
  short = grind (arith, nat_tests);
  whole = grind (arith, nat_tests);
  checked = grind (arith, nat_tests);
  holds = grind (arith, nat_tests);
}

module _ (head most a b c d : ℕ) (rest : List ℕ) (h : Held) (bytes : Bytes (a ∷ b ∷ c ∷ d ∷ rest)) (o : Opens head most (a ∷ b ∷ c ∷ d ∷ rest) h) where
  abbrev n : ℕ
  n = c * 256 + d

  abbrev f : List ℕ
  f = a ∷ b ∷ c ∷ d ∷ rest

  at_rest : (i : ℕ) → get_or f (4 + i) 0 ≡ get_or rest i 0
  at_rest i = get_or-append-add (a ∷ b ∷ c ∷ d ∷ []) rest i 0

  rest_back : rest ≡ take n rest ++ check_bytes (take n rest)
  rest_back =
      let one : 4 + n + 1 ≡ 4 + (n + 1) = omega arith in
      let next : get_or f (4 + n + 1) 0 ≡ get_or rest (n + 1) 0 = ap (λ (i : ℕ). get_or f i 0) one ∙ at_rest (n + 1) in
      let checked = subst (λ (x : ℕ). cond (eqb n 0) true (eqb x (crc (take n rest))) ≡ true) (ap₂ (λ (x y : ℕ). x * 256 + y) (at_rest n) next) o.checked in
      sym (take-append-drop n rest) ∙ ap (λ r. take n rest ++ r) (check_back rest n (λ i. bytes (suc (suc (suc (suc i))))) (omega (arith, o.whole)) checked)

  four_back : f ≡ framed head b (take n rest)
  four_back =
      let within : n ≤ length rest = let w = o.whole in grind (arith, nat_tests) in
      let taken : length (take n rest) ≡ n = length-take-le n rest within in
      let high : c ≡ length (take n rest) / 256 % 256 = omega (arith, bytes 2, bytes 3) in
      let low : d ≡ length (take n rest) % 256 = omega (arith, bytes 2, bytes 3) in
      λ j. o.headed j ∷ b ∷ high j ∷ low j ∷ rest_back j

-- what opens is the frame of what it holds
pub framed_back : (head most : ℕ) (f : List ℕ) (h : Held) → Bytes f → opened head most f ≡ Ok h → f ≡ framed head h.tag h.bytes
framed_back head most [] h bytes e = let z : ◌≡◌ {A = ℕ} 0 1 = cc in absurd (omega arith)
framed_back head most (a ∷ []) h bytes e = let z : ◌≡◌ {A = ℕ} 0 1 = cc in absurd (omega arith)
framed_back head most (a ∷ b ∷ []) h bytes e = let z : ◌≡◌ {A = ℕ} 0 1 = cc in absurd (omega arith)
framed_back head most (a ∷ b ∷ c ∷ []) h bytes e = let z : ◌≡◌ {A = ℕ} 0 1 = cc in absurd (omega arith)
framed_back head most (a ∷ b ∷ c ∷ d ∷ rest) h bytes e =
    let o = opened_opens head most (a ∷ b ∷ c ∷ d ∷ rest) h e in
    four_back head most a b c d rest h bytes o ∙ sym (ap (λ x. framed head x.tag x.bytes) o.holds)
