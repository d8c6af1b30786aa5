-- What the first octets do to the listing of options, and an option to the contents of those before it.
use Rattle.std.specs.Prelude.{◌≡◌, ℕ, ◌<◌, ◌==◌, Bool, true, false, if◌then◌else◌, List, length, Option, Some, None}
use Rattle.mud_base.specs.declared.number.ByteOrder.{ByteOrder}
use Rattle.pcapng_read.specs.declared.options.Step.{Step}
use Rattle.pcapng_read.specs.declared.options.Step.TheVariants.{End, Beyond, Whole}
use Rattle.pcapng_read.specs.Options.{Listing, options_from, no_more, beyond, with_option, last_with}

abbrev pub IsStep : ByteOrder → List ℕ → Step → Type 0
IsStep order octets End = options_from order 0 octets ≡ no_more
IsStep order octets Beyond = options_from order 0 octets ≡ beyond
IsStep order octets (Whole code content rest) =
    (length rest.now < length octets)
    × (options_from order 0 octets ≡ with_option (record { code = code; content = content.now }) (options_from order 0 rest.now))

-- the contents of the options that are looked at
pub record Contents : Type 0 where
  pub resolution : Option (List ℕ)
  pub time_offset : Option (List ℕ)

abbrev pub nothing_yet : Contents
nothing_yet = record { resolution = None; time_offset = None }

abbrev pub with_content : Contents → ℕ → List ℕ → Contents
with_content contents code content = record {
  resolution = if code == 9 then Some content else contents.resolution;
  time_offset = if code == 14 then Some content else contents.time_offset;
}

abbrev pub unless_passed : Bool → Contents → Option Contents
unless_passed true contents = None
unless_passed false contents = Some contents

-- the contents of the last options, or those found before where there are none; none where an option passes the body
unfoldable pub contents_behind : Contents → Listing → Option Contents
contents_behind found listing =
    unless_passed listing.passes
    (record { resolution = last_with 9 found.resolution listing.options; time_offset = last_with 14 found.time_offset listing.options })
