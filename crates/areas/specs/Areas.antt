-- The address map: user flash and the option words. Addresses and counts are numbers that never wrap.
use Rattle.std.specs.Prelude.{ℕ, ◌+◌, ◌-◌, ◌*◌, ◌/◌, Bool, cond, ◌&&◌, ◌||◌, nat_le}
use Rattle.areas.specs.declared.map.Area.{Area}
use Rattle.areas.specs.declared.map.Area.TheVariants.{User, Options, Outside}

-- the address of an area's first byte
abbrev pub area_start : Area → ℕ
area_start User = 0x08000000
area_start Options = 0x1FFFF800
area_start Outside = 0

-- an area's size in bytes, on a part with P pages: 512 bytes a page, four option words
abbrev pub area_size : ℕ → Area → ℕ
area_size P User = 512 * P
area_size P Options = 16
area_size P Outside = 0

-- n bytes from the address on lie wholly in the area
abbrev pub within : ℕ → Area → ℕ → ℕ → Bool
within P area address n = nat_le (area_start area) address && nat_le (address + n) (area_start area + area_size P area)

-- n bytes from the address on lie wholly in user flash or wholly in the option words
abbrev pub wholly : ℕ → ℕ → ℕ → Bool
wholly P address n = within P User address n || within P Options address n

-- the area in which an address lies and the number there of the word that holds it; outside both, number 0
abbrev pub place_of : ℕ → ℕ → Area × ℕ
place_of P address =
    cond (within P User address 1) (User, (address - area_start User) / 4)
    (cond (within P Options address 1) (Options, (address - area_start Options) / 4)
    (Outside, 0))
