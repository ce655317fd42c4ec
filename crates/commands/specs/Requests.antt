-- What a command asks for, as numbers and bytes; its data field; and the rules for length, alignment, parameters and range.
use Rattle.std.specs.Prelude.{◌≡◌, ℕ, ◌+◌, ◌-◌, ◌*◌, ◌/◌, ◌%◌, ◌^◌, ◌<◌, ◌≤◌, min, max, Bool, true, false, cond, not, ◌&&◌, ◌||◌, List, [], ◌∷◌, ◌++◌, length, take, drop, ◌==◌, nat_le, nat_lt, slice_index}
use Rattle.commands.specs.declared.kinds.Kind.{Kind}
use Rattle.commands.specs.declared.kinds.Kind.TheVariants.{Get, Read, Write, MemoryCrc, Erase, Protect, Unprotect}
use Rattle.areas.specs.declared.map.Area.TheVariants.{User}
use Rattle.areas.specs.Areas.{within, wholly}
use Rattle.commands.specs.Fields.{two, four, bytes_of_two, bytes_of_four, Bytes}

pub data Request : Type 0 where
  -- which information
  get : ℕ → Request
  -- address, count of bytes
  read : ℕ → ℕ → Request
  -- address, the bytes
  write : ℕ → List ℕ → Request
  -- address, count of bytes, the checksum to compare with
  memory_crc : ℕ → ℕ → ℕ → Request
  -- mode, index, count
  erase : ℕ → ℕ → ℕ → Request
  protect : Request
  unprotect : Request

-- the numbers of a request fit the fields of its frame, and its data are bytes
abbrev pub Fitting : Request → Type 0
Fitting (get information) = information < 2 ^ 8
Fitting (read address n) = (address < 2 ^ 32) × (n < 2 ^ 16)
Fitting (write address bytes) = (address < 2 ^ 32) × Bytes bytes
Fitting (memory_crc address n value) = (address < 2 ^ 32) × (n < 2 ^ 32) × (value < 2 ^ 16)
Fitting (erase mode index count) = (mode < 2 ^ 8) × (index < 2 ^ 32) × (count < 2 ^ 32)
Fitting protect = Unit {0}
Fitting unprotect = Unit {0}

-- the command that asks so
abbrev pub kind_for : Request → Kind
kind_for (get information) = Get
kind_for (read address n) = Read
kind_for (write address bytes) = Write
kind_for (memory_crc address n value) = MemoryCrc
kind_for (erase mode index count) = Erase
kind_for protect = Protect
kind_for unprotect = Unprotect

-- the data field of a request's frame
abbrev pub request_data : Request → List ℕ
request_data (get information) = information ∷ []
request_data (read address n) = bytes_of_four address ++ bytes_of_two n
request_data (write address bytes) = bytes_of_four address ++ bytes
request_data (memory_crc address n value) = bytes_of_four address ++ (bytes_of_four n ++ bytes_of_two value)
request_data (erase mode index count) = mode ∷ (bytes_of_four index ++ bytes_of_four count)
request_data protect = []
request_data unprotect = []

-- what a command's data field asks for
abbrev pub request_of : Kind → List ℕ → Request
request_of Get d = get (slice_index d 0)
request_of Read d = read (four d 0) (two d 4)
request_of Write d = write (four d 0) (drop 4 d)
request_of MemoryCrc d = memory_crc (four d 0) (four d 4) (two d 8)
request_of Erase d = erase (slice_index d 0) (four d 1) (four d 5)
request_of Protect d = protect
request_of Unprotect d = unprotect

-- a Write's data: 1 to 128 whole words
abbrev pub whole_words : ℕ → Bool
whole_words n = nat_le 4 n && (nat_le n 512 && n % 4 == 0)

-- the same as facts: what the type of a Write's data keeps
abbrev pub WriteLength : ℕ → Type 0
WriteLength n = (4 ≤ n) × (n ≤ 512) × (n % 4 ≡ 0)

-- so many words of data behind the address of a Write's frame; a count that no Write has counts as the nearest
abbrev pub stored_bytes : List ℕ → ℕ → List ℕ
stored_bytes f words = take (4 * min (max words 1) 128) (drop 8 f)

-- place 5: the data field has a length that the command does not have
abbrev pub wrong_length : Kind → ℕ → Bool
wrong_length Get n = not (n == 1)
wrong_length Read n = not (n == 6)
wrong_length Write n = not (nat_le 4 n && whole_words (n - 4))
wrong_length MemoryCrc n = not (n == 10)
wrong_length Erase n = not (n == 9)
wrong_length Protect n = not (n == 0)
wrong_length Unprotect n = not (n == 0)

-- place 6: an address that is no multiple of 4
abbrev pub misaligned : Request → Bool
misaligned (get information) = false
misaligned (read address n) = not (address % 4 == 0)
misaligned (write address bytes) = not (address % 4 == 0)
misaligned (memory_crc address n value) = not (address % 4 == 0)
misaligned (erase mode index count) = false
misaligned protect = false
misaligned unprotect = false

-- the first and the last of n bytes lie in one page of 512
abbrev pub one_page : ℕ → ℕ → Bool
one_page address n = address / 512 == (address + n - 1) / 512

-- an Erase of some pages (AA), of some blocks (55), or of all (3C, with index and count 0)
abbrev pub erase_known : ℕ → ℕ → ℕ → Bool
erase_known mode index count =
    (mode == 0xAA && not (count == 0))
    || ((mode == 0x55 && not (count == 0))
    || (mode == 0x3C && (index == 0 && count == 0)))

-- place 7: a parameter that the command does not know
abbrev pub wrong_parameter : Request → Bool
wrong_parameter (get information) = nat_lt 4 information
wrong_parameter (read address n) = not (whole_words n)
wrong_parameter (write address bytes) = not (one_page address (length bytes))
wrong_parameter (memory_crc address n value) = n == 0 || not (n % 4 == 0)
wrong_parameter (erase mode index count) = not (erase_known mode index count)
wrong_parameter protect = false
wrong_parameter unprotect = false

-- the pages, or blocks of eight pages, of an Erase lie in P pages
abbrev pub erase_within : ℕ → ℕ → ℕ → ℕ → Bool
erase_within P mode index count =
    cond (mode == 0xAA) (nat_le (index + count) P)
    (cond (mode == 0x55) (nat_le (index + count) (P / 8))
    true)

-- place 8: beyond the memory of a part with P pages
abbrev pub out_of_range : ℕ → Request → Bool
out_of_range P (get information) = false
out_of_range P (read address n) = not (wholly P address n)
out_of_range P (write address bytes) = not (wholly P address (length bytes))
out_of_range P (memory_crc address n value) = not (within P User address n)
out_of_range P (erase mode index count) = not (erase_within P mode index count)
out_of_range P protect = false
out_of_range P unprotect = false
