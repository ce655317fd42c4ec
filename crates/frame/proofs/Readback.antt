-- A request's data field, read back, and a data field's request, written back.
use Rattle.std.proofs.Common.{◌≡◌, ℕ, zero, suc, ◌+◌, ◌*◌, ◌/◌, ◌%◌, ◌^◌, ◌<◌, ◌≤◌, true, false, eqb, List, [], ◌∷◌, ◌++◌, length, get_or, take, drop, Some, sym, refl, ap, ◌∙◌, subst, ap₂, ⊎_elim, arith}
use Rattle.std.proofs.lemmas.List.{drop_more, drop_all, nil_from_length, get_or-drop}
use Rattle.std.proofs.lemmas.Bool.Decides.{nat_tests}
use Rattle.std.proofs.lemmas.Bool.{eqb-true, cond-true, cond-false, cases_Bool}
use Rattle.commands.specs.declared.codes.Code.{Code}
use Rattle.commands.specs.declared.codes.Code.TheVariants.{Done, NotAllowed, FlashRefused, WrongLength, WrongChecksum, NotAligned, OutOfRange, WrongParameter, UnknownCommand}
use Rattle.commands.specs.Codes.{code_byte, code_of}
use Rattle.commands.specs.Kinds.{kinds, kind_byte, kind_among, kind_of}
use Rattle.commands.specs.declared.kinds.Kind.{Kind}
use Rattle.commands.specs.declared.kinds.Kind.TheVariants.{Get, Read, Write, MemoryCrc, Erase, Protect, Unprotect}
use Rattle.commands.specs.Fields.{two, four, bytes_of_two, bytes_of_four, Bytes}
use Rattle.frame.proofs.Frames.{two_back}
use Rattle.commands.specs.Requests.{Request, get, read, write, memory_crc, erase, protect, unprotect, Fitting, kind_for, request_data, request_of, wrong_length}

-- ---- numbers

four_is : (n : ℕ) → n < 2 ^ 32 → n / 16777216 % 256 * 16777216 + n / 65536 % 256 * 65536 + n / 256 % 256 * 256 + n % 256 ≡ n
four_is n h =
    let a : n / 65536 ≡ n / 256 / 256 = omega arith in
    let b : n / 16777216 ≡ n / 65536 / 256 = omega arith in
    let c : n / 16777216 % 256 ≡ n / 16777216 = omega arith in
    omega arith

-- ---- what a request's data field asks for is the request

pub read_back : (q : Request) → Fitting q → request_of (kind_for q) (request_data q) ≡ q
read_back (get information) f = refl
read_back (read address n) f = ap₂ read (four_is address f.0) (two_back n f.1)
read_back (write address bytes) f = ap (λ a. write a bytes) (four_is address f.0)
read_back (memory_crc address n value) f = λ j. memory_crc (four_is address f.0 j) (four_is n f.1 j) (two_back value f.2 j)
read_back (erase mode index count) f = ap₂ (erase mode) (four_is index f.1) (four_is count f.2)
read_back protect f = refl
read_back unprotect f = refl

-- ---- a data field of the right length is that of its request

two_more : (d : List ℕ) (i : ℕ) → Bytes d → i + 2 ≤ length d → drop i d ≡ bytes_of_two (two d i) ++ drop (i + 2) d
two_more d i bytes h =
    let a = bytes i in
    let b = bytes (i + 1) in
    let high : get_or d i 0 ≡ two d i / 256 % 256 = omega arith in
    let low : get_or d (i + 1) 0 ≡ two d i % 256 = omega arith in
    drop_more d i 0 (omega arith)
    ∙ ap (λ r. get_or d i 0 ∷ r) (drop_more d (i + 1) 0 (omega arith))
    ∙ (λ j. high j ∷ low j ∷ drop (i + 1 + 1) d)
    ∙ ap (λ (k : ℕ). bytes_of_two (two d i) ++ drop k d) (omega arith)

four_more : (d : List ℕ) (i : ℕ) → Bytes d → i + 4 ≤ length d → drop i d ≡ bytes_of_four (four d i) ++ drop (i + 4) d
four_more d i bytes h =
    let a = bytes i in
    let b = bytes (i + 1) in
    let e = bytes (i + 2) in
    let g = bytes (i + 3) in
    let n : ℕ = four d i in
    let first : get_or d i 0 ≡ n / 16777216 % 256 = omega arith in
    let second : get_or d (i + 1) 0 ≡ n / 65536 % 256 = omega arith in
    let third : get_or d (i + 2) 0 ≡ n / 256 % 256 = omega arith in
    let fourth : get_or d (i + 3) 0 ≡ n % 256 = omega arith in
    drop_more d i 0 (omega arith)
    ∙ ap (λ r. get_or d i 0 ∷ r) (drop_more d (i + 1) 0 (omega arith) ∙ ap (λ (k : ℕ). get_or d (i + 1) 0 ∷ drop k d) (omega arith))
    ∙ ap (λ r. get_or d i 0 ∷ get_or d (i + 1) 0 ∷ r) (drop_more d (i + 2) 0 (omega arith) ∙ ap (λ (k : ℕ). get_or d (i + 2) 0 ∷ drop k d) (omega arith))
    ∙ ap (λ r. get_or d i 0 ∷ get_or d (i + 1) 0 ∷ get_or d (i + 2) 0 ∷ r) (drop_more d (i + 3) 0 (omega arith) ∙ ap (λ (k : ℕ). get_or d (i + 3) 0 ∷ drop k d) (omega arith))
    ∙ (λ j. first j ∷ second j ∷ third j ∷ fourth j ∷ drop (i + 4) d)

-- nothing is left past the end
past : (d : List ℕ) (n : ℕ) → length d ≡ n → drop n d ≡ []
past d n e = drop_all n d (omega arith)

pub write_back : (k : Kind) (d : List ℕ) → Bytes d → wrong_length k (length d) ≡ false → request_data (request_of k d) ≡ d
write_back Get d bytes w =
    let l : length d ≡ 1 = grind (arith, nat_tests) in
    sym (drop_more d 0 0 (omega arith) ∙ ap (λ r. get_or d 0 0 ∷ r) (past d 1 l))
write_back Read d bytes w =
    let l : length d ≡ 6 = grind (arith, nat_tests) in
    sym (four_more d 0 bytes (omega arith)
    ∙ ap (λ r. bytes_of_four (four d 0) ++ r) (two_more d 4 bytes (omega arith) ∙ ap (λ r. bytes_of_two (two d 4) ++ r) (past d 6 l)))
write_back Write d bytes w =
    let l : 4 ≤ length d = grind (arith, nat_tests) in
    sym (four_more d 0 bytes (omega arith))
write_back MemoryCrc d bytes w =
    let l : length d ≡ 10 = grind (arith, nat_tests) in
    sym (four_more d 0 bytes (omega arith)
    ∙ ap (λ r. bytes_of_four (four d 0) ++ r)
    (four_more d 4 bytes (omega arith) ∙ ap (λ r. bytes_of_four (four d 4) ++ r) (two_more d 8 bytes (omega arith) ∙ ap (λ r. bytes_of_two (two d 8) ++ r) (past d 10 l))))
write_back Erase d bytes w =
    let l : length d ≡ 9 = grind (arith, nat_tests) in
    sym (drop_more d 0 0 (omega arith)
    ∙ ap (λ r. get_or d 0 0 ∷ r)
    (four_more d 1 bytes (omega arith) ∙ ap (λ r. bytes_of_four (four d 1) ++ r) (four_more d 5 bytes (omega arith) ∙ ap (λ r. bytes_of_four (four d 5) ++ r) (past d 9 l))))
write_back Protect d bytes w = let l : length d ≡ 0 = grind (arith, nat_tests) in sym (nil_from_length d l)
write_back Unprotect d bytes w = let l : length d ≡ 0 = grind (arith, nat_tests) in sym (nil_from_length d l)

pub kind_back : (k : Kind) (d : List ℕ) → kind_for (request_of k d) ≡ k
kind_back Get d = refl
kind_back Read d = refl
kind_back Write d = refl
kind_back MemoryCrc d = refl
kind_back Erase d = refl
kind_back Protect d = refl
kind_back Unprotect d = refl

-- ---- commands and codes by their bytes

pub kind_of_byte : (k : Kind) → kind_of (kind_byte k) ≡ Some k
kind_of_byte Get = refl
kind_of_byte Read = refl
kind_of_byte Write = refl
kind_of_byte MemoryCrc = refl
kind_of_byte Erase = refl
kind_of_byte Protect = refl
kind_of_byte Unprotect = refl

among : (ks : List Kind) (b : ℕ) (k : Kind) → kind_among ks b ≡ Some k → b ≡ kind_byte k
among [] b k e = let z : ◌≡◌ {A = ℕ} 0 1 = cc in absurd (omega arith)
among (x ∷ ks) b k e =
    ⊎_elim
    (λ (t : eqb b (kind_byte x) ≡ true).
    let same : Some x ≡ Some k = sym (cond-true _ _ _ t) ∙ e in
    let x≡k : x ≡ k = cc in
    eqb-true b (kind_byte x) t ∙ ap kind_byte x≡k)
    (λ (f : eqb b (kind_byte x) ≡ false). among ks b k (sym (cond-false _ _ _ f) ∙ e))
    (cases_Bool (eqb b (kind_byte x)))

pub byte_of_kind : (b : ℕ) (k : Kind) → kind_of b ≡ Some k → b ≡ kind_byte k
byte_of_kind b k e = among kinds b k e

pub code_of_byte : (c : Code) → code_of (code_byte c) ≡ Some c
code_of_byte Done = refl
code_of_byte NotAllowed = refl
code_of_byte FlashRefused = refl
code_of_byte WrongLength = refl
code_of_byte WrongChecksum = refl
code_of_byte NotAligned = refl
code_of_byte OutOfRange = refl
code_of_byte WrongParameter = refl
code_of_byte UnknownCommand = refl

-- ---- bytes

pub bytes_cons : (x : ℕ) (xs : List ℕ) → x < 256 → Bytes xs → Bytes (x ∷ xs)
bytes_cons x xs h t zero = h
bytes_cons x xs h t (suc i) = t i

pub bytes_nil : Bytes []
bytes_nil i = omega arith

low : (n : ℕ) → n % 256 < 256
low n = omega arith

bytes_two : (n : ℕ) (xs : List ℕ) → Bytes xs → Bytes (bytes_of_two n ++ xs)
bytes_two n xs t = bytes_cons (n / 256 % 256) (n % 256 ∷ xs) (low (n / 256)) (bytes_cons (n % 256) xs (low n) t)

bytes_four : (n : ℕ) (xs : List ℕ) → Bytes xs → Bytes (bytes_of_four n ++ xs)
bytes_four n xs t =
    bytes_cons (n / 16777216 % 256) (n / 65536 % 256 ∷ n / 256 % 256 ∷ n % 256 ∷ xs) (low (n / 16777216))
    (bytes_cons (n / 65536 % 256) (n / 256 % 256 ∷ n % 256 ∷ xs) (low (n / 65536))
    (bytes_cons (n / 256 % 256) (n % 256 ∷ xs) (low (n / 256)) (bytes_cons (n % 256) xs (low n) t)))

-- a fitting request has a data field of bytes
pub data_bytes : (q : Request) → Fitting q → Bytes (request_data q)
data_bytes (get information) f = bytes_cons information [] f bytes_nil
data_bytes (read address n) f = bytes_four address (bytes_of_two n) (bytes_two n [] bytes_nil)
data_bytes (write address bytes) f = bytes_four address bytes f.1
data_bytes (memory_crc address n value) f = bytes_four address (bytes_of_four n ++ bytes_of_two value) (bytes_four n (bytes_of_two value) (bytes_two value [] bytes_nil))
data_bytes (erase mode index count) f = bytes_cons mode (bytes_of_four index ++ bytes_of_four count) f.0 (bytes_four index (bytes_of_four count) (bytes_four count [] bytes_nil))
data_bytes protect f = bytes_nil
data_bytes unprotect f = bytes_nil

two_fits : (d : List ℕ) (i : ℕ) → Bytes d → two d i < 2 ^ 16
two_fits d i bytes = omega (arith, bytes i, bytes (i + 1))

four_fits : (d : List ℕ) (i : ℕ) → Bytes d → four d i < 2 ^ 32
four_fits d i bytes = omega (arith, bytes i, bytes (i + 1), bytes (i + 2), bytes (i + 3))

-- a data field of bytes has a fitting request
pub data_fitting : (k : Kind) (d : List ℕ) → Bytes d → Fitting (request_of k d)
data_fitting Get d bytes = bytes 0
data_fitting Read d bytes = (four_fits d 0 bytes, two_fits d 4 bytes)
data_fitting Write d bytes = (four_fits d 0 bytes, λ i. subst (λ (x : ℕ). x < 256) (sym (get_or-drop 4 d i 0)) (bytes (4 + i)))
data_fitting MemoryCrc d bytes = (four_fits d 0 bytes, four_fits d 4 bytes, two_fits d 8 bytes)
data_fitting Erase d bytes = (bytes 0, four_fits d 1 bytes, four_fits d 5 bytes)
data_fitting Protect d bytes = tt
data_fitting Unprotect d bytes = tt

-- a command's length is within the frame's limit
pub length_limit : (k : Kind) (n : ℕ) → wrong_length k n ≡ false → n ≤ 516
length_limit Get n w = grind (arith, nat_tests)
length_limit Read n w = grind (arith, nat_tests)
length_limit Write n w = grind (arith, nat_tests)
length_limit MemoryCrc n w = grind (arith, nat_tests)
length_limit Erase n w = grind (arith, nat_tests)
length_limit Protect n w = grind (arith, nat_tests)
length_limit Unprotect n w = grind (arith, nat_tests)

bytes_take : (n : ℕ) (xs : List ℕ) → Bytes xs → Bytes (take n xs)
bytes_take zero xs t = bytes_nil
bytes_take (suc n) [] t = bytes_nil
bytes_take (suc n) (x ∷ xs) t = bytes_cons x (take n xs) (t 0) (bytes_take n xs (λ i. t (suc i)))

-- a part of bytes is bytes
pub bytes_part : (a n : ℕ) (xs : List ℕ) → Bytes xs → Bytes (take n (drop a xs))
bytes_part a n xs t = bytes_take n (drop a xs) (λ i. subst (λ (x : ℕ). x < 256) (sym (get_or-drop a xs i 0)) (t (a + i)))
