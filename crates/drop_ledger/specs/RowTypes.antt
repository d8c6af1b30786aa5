-- The count of a row leaves its sort key.
use Rattle.std.proofs.Common.{◌≡◌, ℕ, refl}
use Rattle.drop_ledger.specs.declared.rows.CountRow.{CountRow}
use Rattle.drop_ledger.specs.declared.rows.DeniedRow.{DeniedRow}
use Rattle.drop_ledger.specs.declared.rows.OtherRow.{OtherRow}
use Rattle.drop_ledger.specs.SortKeys.{sort_key_of_count, sort_key_of_denied, sort_key_of_other, count_of_row, denied_count, other_count, with_count, with_denied, with_other}

pub count_stays : (n : ℕ) (r : CountRow) → sort_key_of_count (with_count n r) ≡ sort_key_of_count r
unfolding sort_key_of_count with_count
count_stays n r = refl

pub count_told : (n : ℕ) (r : CountRow) → count_of_row (with_count n r) ≡ n
unfolding count_of_row with_count
count_told n r = refl

pub denied_stays : (n : ℕ) (r : DeniedRow) → sort_key_of_denied (with_denied n r) ≡ sort_key_of_denied r
unfolding sort_key_of_denied with_denied
denied_stays n r = refl

pub denied_told : (n : ℕ) (r : DeniedRow) → denied_count (with_denied n r) ≡ n
unfolding denied_count with_denied
denied_told n r = refl

pub other_stays : (n : ℕ) (r : OtherRow) → sort_key_of_other (with_other n r) ≡ sort_key_of_other r
unfolding sort_key_of_other with_other
other_stays n r = refl

pub other_told : (n : ℕ) (r : OtherRow) → other_count (with_other n r) ≡ n
unfolding other_count with_other
other_told n r = refl
