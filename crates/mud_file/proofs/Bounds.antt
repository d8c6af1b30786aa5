-- The bounds of a usage file that is read.
use Rattle.std.proofs.Common.{◌≡◌, ℕ, ◌-◌, ◌≤◌, ◌<◌, Bool, true, false, ◌||◌, List, [], ◌∷◌, ◌++◌, length, Option, Some, None, Ok, Err, Result, if◌then◌else◌, refl, subst, arith, IsTrue, length-append}
use Rattle.std.specs.Prelude.{nat_lt, nat_le, ◌==◌, unwrap_or}
use Rattle.std.specs.List.{AllByRecursion}
use Rattle.std.proofs.lemmas.Bool.Decides.{nat_tests}
use Rattle.mud_base.specs.Faults.{first_row}
use Rattle.mud_base.specs.declared.packet.Direction.{Direction}
use Rattle.mud_url.specs.declared.fault.UrlFault.{UrlFault}
use Rattle.mud_url.specs.Url.{faults, canonical, url_of, is_canonical}
use Rattle.mud_url.proofs.Idempotence.{url_of_no_fault, is_canonical-canonical}
use Rattle.acl_model.specs.declared.entry.Action.{Action}
use Rattle.acl_model.specs.declared.entry.Entry.{Entry}
use Rattle.acl_model.specs.declared.entry.Policy.{Policy}
use Rattle.serde_json.specs.Data.{Data}
use Rattle.usage_walk.specs.declared.fault.Broken.{Broken}
use Rattle.mud_base.specs.Readings.{answer, done, refused_where}
use Rattle.usage_walk.specs.Named.{Element}
use Rattle.mud_base.proofs.Readings.{answer_unwanted}
use Rattle.usage_match.specs.declared.entry_tests.Tests.{Tests}
use Rattle.mud_file.specs.declared.usage_file.Head.{Head}
use Rattle.mud_file.specs.declared.usage_file.UsageFile.{UsageFile}
use Rattle.mud_file.specs.Head.{as_hours, hours_at, as_url, url_at, head_at}
use Rattle.mud_file.specs.Entries as entries
use Rattle.mud_file.specs.Entries.{ListHead, entry_of, most_entries}
use Rattle.usage_walk.specs.Json.{value_in}
use Rattle.mud_file.specs.File.{policy_at, with_policy, mud_at, file_at, as_json, file_of}
use Rattle.mud_file.specs.Bounds.{HasFewMembers, IsBounded, ReadFilesAreBounded}
use Rattle.usage_walk.proofs.Always.{Always, then_ok, always_bind, always_after, always_done, always_passed, always_over}
use Rattle.mud_file.proofs.Members.{IsFewTests, always_tests_at}
use Rattle.mud_file.proofs.Parts.{url_read, most_octets, url_fault, url_path}

-- ---- What the file says of itself

abbrev InHours : ℕ → Type 0
InHours n = (1 ≤ n) × (n ≤ 168)

in_hours : (n : ℕ) → (n == 0 || nat_lt 168 n) ≡ false → InHours n
in_hours n e = (grind (arith, nat_tests), grind (arith, nat_tests))

always_as_hours : (path : List ℕ) (n : ℕ) → Always InHours (as_hours path n)
unfolding as_hours
always_as_hours path n = always_bind (λ _. (n == 0 || nat_lt 168 n) ≡ false) InHours (refused_where (n == 0 || nat_lt 168 n) _) (λ _. done n) (always_passed (n == 0 || nat_lt 168 n) _) (λ _ e. always_done InHours n (in_hours n e))

always_hours_at : (path : List ℕ) (d : Data) → Always InHours (hours_at path d)
unfolding hours_at
always_hours_at path d = always_after InHours _ (λ found. as_hours path (unwrap_or found 48)) (λ found. always_as_hours path (unwrap_or found 48))

abbrev IsCanonical : List ℕ → Type 0
IsCanonical url = IsTrue (is_canonical url)

canonical_by_rows : (url text : List ℕ) (row : Option UrlFault) → first_row (faults url) ≡ row → url_of url ≡ Ok text → is_canonical text ≡ true
unfolding url_of
canonical_by_rows url text None none e =
    let is : canonical url ≡ text = let reads = url_of_no_fault url none in cc in
    subst (λ (t : List ℕ). is_canonical t ≡ true) is (is_canonical-canonical url none)
canonical_by_rows url text (Some fault) some e = absurd (let refused = rw some at e in cc)

always_url_read : (path url : List ℕ) (x : Result (List ℕ) UrlFault) → url_of url ≡ x → Always IsCanonical (url_read path x)
always_url_read path url (Ok text) is = always_done IsCanonical text (canonical_by_rows url text (first_row (faults url)) refl is)
always_url_read path url (Err fault) is = λ a e. let refused = answer_unwanted {A = List ℕ} [] (url_fault path fault) in absurd cc

always_as_url : (path text : List ℕ) → Always IsCanonical (as_url path text)
unfolding as_url
always_as_url path text = always_url_read (url_path path) text (url_of text) refl

always_url_at : (path : List ℕ) (d : Data) → Always IsCanonical (url_at path d)
unfolding url_at
always_url_at path d = always_after IsCanonical _ (as_url path) (always_as_url path)

abbrev IsSoundHead : Head → Type 0
IsSoundHead head = InHours head.hours × IsCanonical head.url

always_head_at : (path : List ℕ) (d : Data) → Always IsSoundHead (head_at path d)
unfolding head_at
always_head_at path d =
    always_after IsSoundHead _ _ (λ _.
    always_bind IsCanonical IsSoundHead (url_at path d) _ (always_url_at path d) (λ url url_is.
    always_after IsSoundHead _ _ (λ update.
    always_bind InHours IsSoundHead (hours_at path d) _ (always_hours_at path d) (λ hours hours_are.
    always_after IsSoundHead _ _ (λ supported.
    always_after IsSoundHead _ _ (λ signature.
    always_after IsSoundHead _ _ (λ _.
    always_after IsSoundHead _ _ (λ extensions.
    always_done IsSoundHead _ (hours_are, url_is)))))))))

-- ---- Entries, where so many may stand

abbrev InRoom : ℕ → List Entry → Type 0
InRoom room found = (length found ≤ room) × AllByRecursion HasFewMembers found

all_joined : (first second : List Entry) → AllByRecursion HasFewMembers first → AllByRecursion HasFewMembers second → AllByRecursion HasFewMembers (first ++ second)
all_joined [] second none more = more
all_joined (entry ∷ first) second holds more = (holds.0, all_joined first second holds.1 more)

few_of_tests : (list : ListHead) (name : List ℕ) (tests : Tests) (act : Action) → IsFewTests tests → HasFewMembers (entry_of list name tests act)
unfolding entry_of
few_of_tests list name tests act few = few

abbrev IsNext : ListHead → List Entry → Entry → Type 0
IsNext list before entry = HasFewMembers entry × (length before < list.room)

is_room : (room n : ℕ) → nat_le room n ≡ false → n < room
is_room room n e = grind (arith, nat_tests)

always_entry_at : (list : ListHead) (path : List ℕ) (before : List Entry) (d : Data) → Always (IsNext list before) (entries.entry_at list path before d)
unfolding entries.entry_at
always_entry_at list path before d =
    let full = nat_le list.room (length before) in
    always_after (IsNext list before) _ _ (λ object.
    always_bind (λ _. full ≡ false) (IsNext list before) (refused_where full _) _ (always_passed full _) (λ _ room.
    always_after (IsNext list before) _ _ (λ name.
    always_bind IsFewTests (IsNext list before) _ _ (always_tests_at list.type list.side path object) (λ tests few.
    always_after (IsNext list before) _ _ (λ act.
    always_done (IsNext list before) _ (few_of_tests list name tests act few, is_room list.room (length before) room))))))

with_one : (room : ℕ) (before : List Entry) (entry : Entry) → InRoom room before → HasFewMembers entry → length before < room → InRoom room (before ++ entry ∷ [])
with_one room before entry held few less = (omega (arith, length-append before (entry ∷ [])), all_joined before (entry ∷ []) held.1 (few, tt))

always_with_entry : (list : ListHead) (path : List ℕ) (before : List Entry) (d : Data) → InRoom list.room before → Always (InRoom list.room) (entries.with_entry list path before d)
unfolding entries.with_entry
always_with_entry list path before d held =
    always_bind (IsNext list before) (InRoom list.room) (entries.entry_at list path before d) _ (always_entry_at list path before d) (λ entry next.
    always_done (InRoom list.room) (before ++ entry ∷ []) (with_one list.room before entry held next.0 next.1))

always_next_entry : (list : ListHead) (before : List Entry) (d : Data) → InRoom list.room before → Always (InRoom list.room) (entries.next_entry list before d)
unfolding entries.next_entry
always_next_entry list before d held = always_with_entry list _ before d held

always_entries_in : (list : ListHead) (ds : List Data) → Always (InRoom list.room) (entries.entries_in list ds)
unfolding entries.entries_in
always_entries_in list ds = always_over (InRoom list.room) (entries.next_entry list) (always_next_entry list) [] ds (omega arith, tt)

always_list_at : (side : Direction) (room : ℕ) (path : List ℕ) (acl : Element) → Always (InRoom room) (entries.list_at side room path acl)
unfolding entries.list_at
always_list_at side room path acl =
    always_after (InRoom room) _ _ (λ type.
    always_after (InRoom room) _ _ (λ list.
    always_entries_in _ list))

with_more : (so_far more : List Entry) → InRoom most_entries so_far → InRoom (most_entries - length so_far) more → InRoom most_entries (so_far ++ more)
with_more so_far more held few = (omega (arith, length-append so_far more), all_joined so_far more held.1 few.1)

always_next_list : (side : Direction) (path : List ℕ) (acls : List Element) (so_far : List Entry) (name : Element) → InRoom most_entries so_far → Always (InRoom most_entries) (entries.next_list side path acls so_far name)
unfolding entries.next_list
always_next_list side path acls so_far name held =
    always_after (InRoom most_entries) _ _ (λ acl.
    always_bind (InRoom (most_entries - length so_far)) (InRoom most_entries) _ _ (always_list_at side (most_entries - length so_far) _ acl) (λ more few.
    always_done (InRoom most_entries) (so_far ++ more) (with_more so_far more held few)))

always_entries_of : (side : Direction) (path : List ℕ) (acls names : List Element) → Always (InRoom most_entries) (entries.entries_of side path acls names)
unfolding entries.entries_of
always_entries_of side path acls names = always_over (InRoom most_entries) (entries.next_list side path acls) (always_next_list side path acls) [] names (omega arith, tt)

-- ---- The whole file

abbrev IsBoundedPolicy : Policy → Type 0
IsBoundedPolicy policy = InRoom most_entries policy.outgoing × InRoom most_entries policy.incoming

always_policy_at : (root : Data) (path : List ℕ) (mud : Data) → Always IsBoundedPolicy (policy_at root path mud)
unfolding policy_at
always_policy_at root path mud =
    always_after IsBoundedPolicy _ _ (λ from.
    always_after IsBoundedPolicy _ _ (λ to.
    always_after IsBoundedPolicy _ _ (λ acls.
    always_bind (InRoom most_entries) IsBoundedPolicy _ _ (always_entries_of _ _ acls from) (λ outgoing sent.
    always_bind (InRoom most_entries) IsBoundedPolicy _ _ (always_entries_of _ _ acls to) (λ incoming received.
    always_done IsBoundedPolicy _ (sent, received))))))

is_bounded : (head : Head) (policy : Policy) → IsSoundHead head → IsBoundedPolicy policy → IsBounded (with_policy head policy)
unfolding with_policy
is_bounded head policy sound bounded = record {
  outgoing = record { few = bounded.0.0; members = bounded.0.1 };
  incoming = record { few = bounded.1.0; members = bounded.1.1 };
  least_hours = sound.0.0;
  most_hours = sound.0.1;
  url = sound.1;
}

always_mud_at : (root : Data) (path : List ℕ) (mud : Data) → Always IsBounded (mud_at root path mud)
unfolding mud_at
always_mud_at root path mud =
    always_bind IsSoundHead IsBounded (head_at path mud) _ (always_head_at path mud) (λ head sound.
    always_bind IsBoundedPolicy IsBounded (policy_at root path mud) _ (always_policy_at root path mud) (λ policy bounded.
    always_done IsBounded (with_policy head policy) (is_bounded head policy sound bounded)))

always_file_at : (d : Data) → Always IsBounded (file_at d)
unfolding file_at
always_file_at d =
    always_after IsBounded _ _ (λ root.
    always_after IsBounded _ _ (λ mud.
    always_mud_at root _ mud))

chosen_ok : (long : Bool) (fault : Broken) (answered : Result UsageFile Broken) (file : UsageFile) → (if long then Err fault else answered) ≡ Ok file → answered ≡ Ok file
chosen_ok true fault answered file e = absurd cc
chosen_ok false fault answered file e = e

pub read_files_are_bounded : ReadFilesAreBounded
unfolding file_of
read_files_are_bounded octets file e =
    let short = chosen_ok (nat_lt most_octets (length octets)) _ _ file e in
    let value = then_ok (as_json (value_in octets)) (λ d. answer (file_at d)) file short in
    always_file_at value.0 file value.2
