-- Files that are read one after the other are sound, and sound files can be read so.
use Rattle.std.proofs.Common.{◌≡◌, ◌+◌, ◌≤◌, ◌<◌, Bool, true, ◌&&◌, List, [], ◌∷◌, ◌++◌, length, refl, ap, arith, length-append}
use Rattle.std.specs.Prelude.{nat_lt, nat_le}
use Rattle.std.specs.List.{AllByRecursion}
use Rattle.std.specs.Ordering.{is_lt}
use Rattle.std.specs.declared.cmp.Ordering.TheVariants.{Less}
use Rattle.std.proofs.lemmas.Bool.{ltb-true, lt-ltb, leb-true, le-leb}
use Rattle.base_rows.specs.Sortable.{sort_key_cmp, SortKeysAbove, SortKeysAscend, comes_last}
use Rattle.base_rows.proofs.SortableLaws.{ascend-push}
use Rattle.base_rows.proofs.ListTests.{left_of, right_of, both}
use Rattle.usage_tables.specs.declared.cached_file.CachedFile.{CachedFile}
use Rattle.usage_tables.specs.Limits.{most_files, most_policy_entries}
use Rattle.usage_tables.specs.Files.{url_of, approved_entries, entry_count, IsKeptFile, IsSoundFiles}
use Rattle.usage_tables.specs.FileItems.{has_room, may_stand_behind}
use Rattle.usage_tables.proofs.Counts.{entry_count-push}

all_push : (files : List CachedFile) (row : CachedFile) → AllByRecursion IsKeptFile files → IsKeptFile row → AllByRecursion IsKeptFile (files ++ row ∷ [])
all_push [] row all good = (good, tt)
all_push (x ∷ xs) row all good = (all.0, all_push xs row all.1 good)

pub sound-push : (files : List CachedFile) (row : CachedFile) → IsSoundFiles files → IsKeptFile row → may_stand_behind files row ≡ true → IsSoundFiles (files ++ row ∷ [])
unfolding may_stand_behind has_room
sound-push files row sound good behind =
    let last : Bool = comes_last url_of row files in
    let fits : Bool = nat_lt (length files) most_files in
    let few : Bool = nat_le (entry_count files + approved_entries row.approved) most_policy_entries in
    let room : (fits && few) ≡ true = right_of last (fits && few) behind in
    let below : length files < most_files = ltb-true (length files) most_files (left_of fits few room) in
    let count : entry_count files + approved_entries row.approved ≤ most_policy_entries = leb-true (entry_count files + approved_entries row.approved) most_policy_entries (right_of fits few room) in
    record {
      ascend = ascend-push url_of row files sound.ascend (left_of last (fits && few) behind);
      each = all_push files row sound.each good;
      few = omega (arith, below, length-append files (row ∷ []));
      entries = omega (arith, count, entry_count-push files row);
    }

-- ---- The other way round: each of sound rows may stand behind those before it

before_row : (x : CachedFile) (xs : List CachedFile) (row : CachedFile) (ys : List CachedFile) → SortKeysAbove url_of (url_of x) (xs ++ row ∷ ys) → sort_key_cmp (url_of x) (url_of row) ≡ Less
before_row x [] row ys above = above.0
before_row x (y ∷ xs) row ys above = before_row x xs row ys above.1

comes_behind : (xs : List CachedFile) (row : CachedFile) (ys : List CachedFile) → SortKeysAscend url_of (xs ++ row ∷ ys) → comes_last url_of row xs ≡ true
comes_behind [] row ys ascend = refl
comes_behind (x ∷ xs) row ys ascend = both (is_lt (sort_key_cmp (url_of x) (url_of row))) (comes_last url_of row xs) (ap is_lt (before_row x xs row ys ascend.0)) (comes_behind xs row ys ascend.1)

fewer_before : (xs : List CachedFile) (row : CachedFile) (ys : List CachedFile) → length xs < length (xs ++ row ∷ ys)
fewer_before [] row ys = omega arith
fewer_before (x ∷ xs) row ys = omega (arith, fewer_before xs row ys)

fewer_entries : (xs : List CachedFile) (row : CachedFile) (ys : List CachedFile) → entry_count xs + approved_entries row.approved ≤ entry_count (xs ++ row ∷ ys)
unfolding entry_count
fewer_entries [] row ys = omega arith
fewer_entries (x ∷ xs) row ys = omega (arith, fewer_entries xs row ys)

pub behind-sound : (xs : List CachedFile) (row : CachedFile) (ys : List CachedFile) → IsSoundFiles (xs ++ row ∷ ys) → may_stand_behind xs row ≡ true
unfolding may_stand_behind has_room
behind-sound xs row ys sound =
    both (comes_last url_of row xs) (nat_lt (length xs) most_files && nat_le (entry_count xs + approved_entries row.approved) most_policy_entries) (comes_behind xs row ys sound.ascend)
    (both (nat_lt (length xs) most_files) (nat_le (entry_count xs + approved_entries row.approved) most_policy_entries)
    (lt-ltb (length xs) most_files (omega (arith, sound.few, fewer_before xs row ys)))
    (le-leb (entry_count xs + approved_entries row.approved) most_policy_entries (omega (arith, sound.entries, fewer_entries xs row ys))))
