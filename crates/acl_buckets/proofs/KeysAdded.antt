-- Which keys have a bucket once room was made.
use Rattle.std.proofs.Common.{◌≡◌, ℕ, zero, suc, ◌<◌, Bool, true, false, ◌||◌, cond, List, [], ◌∷◌, length, set, get_or, insert, refl, sym, ap, ◌∙◌, arith}
use Rattle.std.specs.List.{list_any}
use Rattle.base_rows.specs.Sortable.{same_sort_key, is_under}
use Rattle.base_rows.specs.declared.edit.Edit.{Edit}
use Rattle.base_rows.specs.Edits.{edit_sort_key}
use Rattle.base_rows.proofs.ChangeLaws.{same_sort_key_turned}
use Rattle.acl_model.specs.declared.binding.MemberKey.{MemberKey}
use Rattle.acl_model.specs.declared.binding.Binding.{Binding}
use Rattle.acl_model.specs.SortKeys.{member_sort_key, binding_sort_key}
use Rattle.acl_buckets.specs.declared.binding_parts.Bucket.{Bucket}
use Rattle.acl_buckets.specs.BindingBuckets.{edits_of_key, has_key}
use Rattle.acl_buckets.specs.BindingParts.{bucket_sort_key, has_bucket, room_in, HaveOthers}
use Rattle.acl_buckets.proofs.KeyLaws.{tells_key}

any_insert : (p : Bucket → Bool) (ss : List Bucket) (i : ℕ) (s : Bucket) → p s ≡ false → list_any p (insert ss i s) ≡ list_any p ss
any_insert p ss zero s other = ap (λ (b : Bool). b || list_any p ss) other
any_insert p [] (suc i) s other = ap (λ (b : Bool). b || list_any p []) other
any_insert p (x ∷ xs) (suc i) s other = ap (λ (b : Bool). p x || b) (any_insert p xs i s other)

any_set : (p : Bucket → Bool) (ss : List Bucket) (i : ℕ) (x s : Bucket) → i < length ss → x ≡ get_or ss i x → p s ≡ p x → list_any p (set ss i s) ≡ list_any p ss
any_set p [] i x s lt is same = absurd (omega arith)
any_set p (y ∷ ys) zero x s lt is same = ap (λ (b : Bool). b || list_any p ys) (same ∙ ap p is)
any_set p (y ∷ ys) (suc i) x s lt is same = ap (λ (b : Bool). p y || b) (any_set p ys i x s (omega arith) is same)

-- a bucket more
pub others_insert : (own : List ℕ) (ss : List Bucket) (i : ℕ) (s : Bucket) → bucket_sort_key s ≡ own → HaveOthers own ss (insert ss i s)
unfolding has_bucket
others_insert own ss i s is t other = any_insert (λ (x : Bucket). same_sort_key (bucket_sort_key x) t) ss i s (ap (λ (p : List ℕ). same_sort_key p t) is ∙ other)

-- a bucket is written
pub others_set : (own : List ℕ) (ss : List Bucket) (i : ℕ) (x s : Bucket) → i < length ss → x ≡ get_or ss i x → bucket_sort_key s ≡ bucket_sort_key x → HaveOthers own ss (set ss i s)
unfolding has_bucket
others_set own ss i x s lt is same t other = any_set (λ (y : Bucket). same_sort_key (bucket_sort_key y) t) ss i x s lt is (ap (λ (p : List ℕ). same_sort_key p t) same)

pub others_twice : (own : List ℕ) (a b c : List Bucket) → HaveOthers own a b → HaveOthers own b c → HaveOthers own a c
others_twice own a b c first second t other = second t other ∙ first t other

-- ---- Keys without an edit

none_here : (e : Edit Binding) (es : List (Edit Binding)) (b c : Bool) → c ≡ b → cond c (e ∷ es) es ≡ [] → (b ≡ false) × (es ≡ [])
none_here e es true true is none = absurd (omega (arith, ap length none))
none_here e es false true is none = absurd (omega (arith, ap length none))
none_here e es b false is none = (sym is, none)

module _ (key : MemberKey) where
  abbrev under : Edit Binding → Bool
  under x = is_under (edit_sort_key binding_sort_key) (member_sort_key key) x

  abbrev same : Edit Binding → Bool
  same x = same_sort_key (member_sort_key x.row.key) (member_sort_key key)

  under_is : (x : Edit Binding) → under x ≡ same x
  unfolding edit_sort_key
  under_is x = tells_key key x.row ∙ same_sort_key_turned (member_sort_key key) (member_sort_key x.row.key)

  first_other : (x : Edit Binding) (xs : List (Edit Binding)) → edits_of_key key (x ∷ xs) ≡ [] → (same x ≡ false) × (edits_of_key key xs ≡ [])
  unfolding edits_of_key
  first_other x xs none = none_here x (edits_of_key key xs) (same x) (under x) (under_is x) none

  -- where the key has no edit, no edit is of it
  pub of_another : (es : List (Edit Binding)) (i : ℕ) (e : Edit Binding) → i < length es → e ≡ get_or es i e → edits_of_key key es ≡ [] → same_sort_key (member_sort_key e.row.key) (member_sort_key key) ≡ false
  of_another [] i e lt is none = absurd (omega arith)
  of_another (x ∷ xs) zero e lt is none = ap same is ∙ (first_other x xs none).0
  of_another (x ∷ xs) (suc i) e lt is none = of_another xs i e (omega arith) is (first_other x xs none).1

-- the keys with room are those with a bucket
pub key_there : (key : MemberKey) (ss : List Bucket) → has_key key (room_in ss) ≡ has_bucket (member_sort_key key) ss
unfolding has_key has_bucket room_in bucket_sort_key
key_there key [] = refl
key_there key (s ∷ ss) = ap (λ (b : Bool). same_sort_key (member_sort_key s.key) (member_sort_key key) || b) (key_there key ss)
