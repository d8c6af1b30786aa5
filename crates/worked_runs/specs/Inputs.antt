-- What the runs read.
use Rattle.std.specs.Prelude.{ℕ, List, [], ◌∷◌, ◌++◌, replicate}
use Rattle.mud_world.specs.declared.item.Item.{Item}

-- a server's message to the Thing 02:00:00:00:00:01, which leases it 192.0.2.10 for a day, in three pieces
abbrev pub lease_pieces : List (List ℕ)
lease_pieces =
    (2 ∷ 1 ∷ 6 ∷ 0 ∷ 0 ∷ 0 ∷ 0 ∷ 1 ∷ replicate 8 0 ++ (192 ∷ 0 ∷ 2 ∷ 10 ∷ []) ++ replicate 8 0 ++ (2 ∷ 0 ∷ 0 ∷ 0 ∷ 0 ∷ 1 ∷ []) ++ replicate 10 0)
    ∷ replicate 192 0
    ∷ (99 ∷ 130 ∷ 83 ∷ 99 ∷ 53 ∷ 1 ∷ 5 ∷ 51 ∷ 4 ∷ 0 ∷ 1 ∷ 81 ∷ 128 ∷ 255 ∷ [])
    ∷ []

-- a capture of no packet: the header alone, in microseconds, with the least significant octet first
abbrev pub empty_capture : List (List ℕ)
empty_capture = (0xD4 ∷ 0xC3 ∷ 0xB2 ∷ 0xA1 ∷ 2 ∷ 0 ∷ 4 ∷ 0 ∷ 0 ∷ 0 ∷ 0 ∷ 0 ∷ 0 ∷ 0 ∷ 0 ∷ 0 ∷ 0 ∷ 0 ∷ 4 ∷ 0 ∷ 1 ∷ 0 ∷ 0 ∷ 0 ∷ []) ∷ []

-- a frame of 02:00:00:00:00:10 with the TLVs Chassis ID, Port ID, Time To Live and End
abbrev pub bare_frame : List (List ℕ)
bare_frame =
    (1 ∷ 128 ∷ 194 ∷ 0 ∷ 0 ∷ 14 ∷ 2 ∷ 0 ∷ 0 ∷ 0 ∷ 0 ∷ 16 ∷ 136 ∷ 204
    ∷ 2 ∷ 7 ∷ 4 ∷ 2 ∷ 0 ∷ 0 ∷ 0 ∷ 0 ∷ 16 ∷ 4 ∷ 7 ∷ 3 ∷ 2 ∷ 0 ∷ 0 ∷ 0 ∷ 0 ∷ 16 ∷ 6 ∷ 2 ∷ 0 ∷ 0 ∷ 0 ∷ 0 ∷ [])
    ∷ []

-- an item of a kind that no record has
abbrev pub unknown_item : Item
unknown_item = record { kind = 9; key = []; body = [] }
