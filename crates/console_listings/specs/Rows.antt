-- The rows of the listings: objects with their members by the octets of their names, and no space.
use Rattle.std.specs.Prelude.{ℕ, List, ◌++◌, codes, decimal, Option, Some, None}
use Rattle.std.specs.Fmt.{signed_decimal}
use Rattle.json.specs.Print.{quoted}
use Rattle.mud_base.specs.declared.addr.Addr.{Addr}
use Rattle.mud_base.specs.Addresses.{PrefixParts}
use Rattle.mud_base.specs.Texts.{mac_text, addr_text, prefix_text}
use Rattle.mud_file.specs.declared.usage_file.UsageFile.{UsageFile}
use Rattle.table_model.specs.declared.thing.Thing.{Thing}
use Rattle.table_model.specs.declared.bind.Class.{Class}
use Rattle.table_model.specs.declared.bind.Class.TheVariants.{Uri, Mine}
use Rattle.table_model.specs.declared.bind.ClassRow.{ClassRow}
use Rattle.table_model.specs.declared.bind.NameRow.{NameRow}
use Rattle.usage_tables.specs.Held.{HeldFile, usage_in, digest_of}
use Rattle.usage_tables.specs.declared.approval.Approval.{Approval}
use Rattle.usage_tables.specs.declared.cached_file.CachedFile.{CachedFile}
use Rattle.usage_tables.specs.Words.{approval_word}
use Rattle.console_answers.specs.Texts.{url_text}
use Rattle.console_listings.specs.Texts.{truth_text, until_text}
use Rattle.console_listings.specs.Lists.{list_text, listing_body}

-- ---- Addresses

unfoldable pub until_end : ℕ → List ℕ
until_end until = codes ",\"until\":" ++ until_text until ++ codes "}"

abbrev pub expiring_text : Addr × ℕ → List ℕ
expiring_text row = codes "{\"address\":" ++ quoted (addr_text row.0) ++ until_end row.1

unfoldable pub url_end : List ℕ → List ℕ
url_end url = codes ",\"url\":" ++ quoted url ++ codes "}"

abbrev pub address_text : Addr → List ℕ
address_text address = quoted (addr_text address)

abbrev pub network_text : PrefixParts → List ℕ
network_text prefix = quoted (prefix_text prefix)

-- ---- Things

unfoldable pub leases_text : Thing → List ℕ
leases_text t = codes "{\"held\":" ++ truth_text t.held ++ codes ",\"leases\":" ++ list_text expiring_text t.leases

unfoldable pub thing_text : Thing → List ℕ
thing_text t =
    leases_text t ++ codes ",\"mac\":" ++ quoted (mac_text t.mac)
    ++ (codes ",\"pending\":" ++ url_text t.pending ++ url_end t.url)

-- ---- Classes, local networks, names, URLs

unfoldable pub class_member : Class → List ℕ
class_member (Uri uri) = codes ",\"class\":" ++ quoted uri
class_member (Mine url) = codes ",\"my-controller-of\":" ++ quoted url

unfoldable pub class_text : ClassRow → List ℕ
class_text row = codes "{\"addresses\":" ++ list_text address_text row.addrs ++ class_member row.class ++ codes "}"

unfoldable pub name_text : NameRow → List ℕ
name_text row = codes "{\"addresses\":" ++ list_text expiring_text row.addrs ++ codes ",\"name\":" ++ quoted row.name ++ codes "}"

-- ---- Files

unfoldable pub digest_text : HeldFile → UsageFile → List ℕ
digest_text held file = codes ",\"sha256\":" ++ quoted (digest_of held.octets) ++ codes ",\"update\":" ++ signed_decimal file.update

-- the object without its end
unfoldable pub held_text : HeldFile → List ℕ
held_text held = file_text held (usage_in held.octets)
  where
    -- what the octets mean; octets that mean nothing are not held
    file_text : HeldFile → Option UsageFile → List ℕ
    file_text held None = codes "{"
    file_text held (Some file) =
        codes "{\"fetched\":" ++ decimal held.fetched ++ codes ",\"hours\":" ++ decimal file.hours ++ digest_text held file

unfoldable pub approved_text : Option (HeldFile × Approval) → List ℕ
approved_text None = codes "null"
approved_text (Some approved) = held_text approved.0 ++ codes ",\"verdict\":" ++ quoted (approval_word approved.1) ++ codes "}"

unfoldable pub candidate_text : Option HeldFile → List ℕ
candidate_text None = codes "null"
candidate_text (Some held) = held_text held ++ codes "}"

unfoldable pub holdings_text : CachedFile → List ℕ
holdings_text row = codes "{\"approved\":" ++ approved_text row.approved ++ codes ",\"candidate\":" ++ candidate_text row.candidate

unfoldable pub cached_text : CachedFile → List ℕ
cached_text row = holdings_text row ++ url_end row.url
