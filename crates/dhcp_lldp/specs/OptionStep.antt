-- What the first octets do to the listing of options, and an option to the contents of those before it.
use Rattle.std.specs.Prelude.{◌≡◌, ℕ, ◌+◌, ◌==◌, if◌then◌else◌, List, length, Option, Some, None, Result, Ok, Err}
use Rattle.dhcp_lldp.specs.declared.options.Step.{Step}
use Rattle.dhcp_lldp.specs.declared.options.Step.TheVariants.{End, Cut, Pad, Whole}
use Rattle.dhcp_lldp.specs.declared.heard.HearFault.{HearFault}
use Rattle.dhcp_lldp.specs.declared.heard.HearFault.TheVariants.{Repeat}
use Rattle.dhcp_lldp.specs.Listings.{no_more, cut_at, with_first}
use Rattle.dhcp_lldp.specs.Options.{Contents, listing}

abbrev pub IsStep : List ℕ → Step → Type 0
IsStep octets End = (offset : ℕ) → listing 0 offset octets ≡ no_more
IsStep octets Cut = (offset : ℕ) → listing 0 offset octets ≡ cut_at offset
IsStep octets (Pad rest) = (length rest.now + 1 ≡ length octets) × ((offset : ℕ) → listing 0 offset octets ≡ listing 0 (offset + 1) rest.now)
IsStep octets (Whole code content rest) =
    (length rest.now + length content.now + 2 ≡ length octets)
    × ((offset : ℕ) → listing 0 offset octets ≡ with_first (record { code = code; content = content.now }) (listing 0 (offset + (2 + length content.now)) rest.now))

abbrev pub nothing_yet : Contents
nothing_yet = record { lease_time = None; message_type = None; mud_url = None }

-- these contents, unless there was one before
abbrev pub once : Option (List ℕ) → Contents → Result Contents HearFault
once None contents = Ok contents
once (Some earlier) contents = Err Repeat

-- the contents with that of one more option
unfoldable pub with_content : Contents → ℕ → List ℕ → Result Contents HearFault
with_content contents code content =
    if code == 51 then once contents.lease_time (record contents { lease_time = Some content })
    else (if code == 53 then once contents.message_type (record contents { message_type = Some content })
    else (if code == 161 then once contents.mud_url (record contents { mud_url = Some content })
    else Ok contents))
