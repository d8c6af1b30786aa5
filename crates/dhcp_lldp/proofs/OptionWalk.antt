-- The options one after the other, as the reader meets them.
use Rattle.std.proofs.Common.{◌≡◌, ◌≢◌, ◌⊎◌, inl, inr, ℕ, ◌+◌, suc, ltb, eqb, Bool, true, false, ◌||◌, List, [], ◌∷◌, length, Option, Some, None, Result, Ok, Err, refl, ap, sym, ◌∙◌, arith, lt-ltb, zero-add}
use Rattle.std.specs.Prelude.{filter}
use Rattle.std.proofs.lemmas.Bool.Decides.{eqb_tells}
use Rattle.std.proofs.Math.Bool.{or-true}
use Rattle.mud_base.specs.Faults.{row, row_at, first_row, unless_fault}
use Rattle.dhcp_lldp.specs.declared.heard.HearFault.{HearFault}
use Rattle.dhcp_lldp.specs.declared.heard.HearFault.TheVariants as faults
use Rattle.dhcp_lldp.specs.Listings.{Listing, no_more, cut_at, with_first}
use Rattle.dhcp_lldp.specs.Options.{DhcpOption, has_code, Contents, contents_of, option_fault}
use Rattle.dhcp_lldp.specs.OptionStep.{nothing_yet, with_content}
use Rattle.dhcp_lldp.proofs.Parts.{content_of}

abbrev pub at_end : Contents → Option ℕ → Result Contents HearFault
at_end contents None = Ok contents
at_end contents (Some offset) = Err (faults.Cut offset)

abbrev pub then_contents : Result Contents HearFault → (Contents → Result Contents HearFault) → Result Contents HearFault
then_contents (Ok contents) f = f contents
then_contents (Err fault) f = Err fault

abbrev pub walk : Contents → List DhcpOption → Option ℕ → Result Contents HearFault
walk contents [] cut = at_end contents cut
walk contents (option ∷ more) cut = then_contents (with_content contents option.code option.content) (λ c. walk c more cut)

unfoldable pub walked : Contents → Listing DhcpOption → Result Contents HearFault
walked contents l = walk contents l.whole l.cut

-- how many an option that was met before counts
abbrev count_of : Option (List ℕ) → ℕ
count_of None = 0
count_of (Some content) = 1

abbrev or_else : Option (List ℕ) → Option (List ℕ) → Option (List ℕ)
or_else None later = later
or_else (Some content) later = Some content

abbrev is_twice : Option (List ℕ) → ℕ → List DhcpOption → Bool
is_twice before code options = ltb 1 (count_of before + length (filter (has_code code) options))

abbrev after : Option (List ℕ) → ℕ → List DhcpOption → Option (List ℕ)
after before code options = or_else before (content_of code options)

-- the answer by the definition, where some contents were met before these options
abbrev answer : Bool → Option ℕ → Contents → Result Contents HearFault
answer is_repeated cut contents = unless_fault (first_row (row is_repeated faults.Repeat ∷ row_at faults.Cut cut ∷ [])) (Ok contents)

abbrev answered : Option (List ℕ) → Option (List ℕ) → Option (List ℕ) → List DhcpOption → Option ℕ → Result Contents HearFault
answered time kind url options cut =
    answer (is_twice time 51 options || is_twice kind 53 options || is_twice url 161 options) cut
    (record { lease_time = after time 51 options; message_type = after kind 53 options; mud_url = after url 161 options })

abbrev IsAnswered : List DhcpOption → Option ℕ → Type 0
IsAnswered options cut =
    (time kind url : Option (List ℕ)) → walk (record { lease_time = time; message_type = kind; mud_url = url }) options cut ≡ answered time kind url options cut

module _ (more : List DhcpOption) (cut : Option ℕ) (later : IsAnswered more cut) (content : List ℕ) where
  counted : (code : ℕ) → 1 + length (filter (has_code code) more) ≡ 0 + suc (length (filter (has_code code) more))
  counted code = omega arith

  exceeds : (code : ℕ) → ltb 1 (1 + suc (length (filter (has_code code) more))) ≡ true
  exceeds code = lt-ltb 1 (1 + suc (length (filter (has_code code) more))) (omega arith)

  at_time : (time kind url : Option (List ℕ)) → walk (record { lease_time = time; message_type = kind; mud_url = url }) (record { code = 51; content = content } ∷ more) cut
      ≡ answered time kind url (record { code = 51; content = content } ∷ more) cut
  unfolding with_content
  at_time None kind url =
      later (Some content) kind url
      ∙ ap (λ n. answer (ltb 1 n || is_twice kind 53 more || is_twice url 161 more) cut
      (record { lease_time = Some content; message_type = after kind 53 more; mud_url = after url 161 more })) (counted 51)
  at_time (Some earlier) kind url = rw (exceeds 51) refl

  at_kind : (time kind url : Option (List ℕ)) → walk (record { lease_time = time; message_type = kind; mud_url = url }) (record { code = 53; content = content } ∷ more) cut
      ≡ answered time kind url (record { code = 53; content = content } ∷ more) cut
  unfolding with_content
  at_kind time None url =
      later time (Some content) url
      ∙ ap (λ n. answer (is_twice time 51 more || ltb 1 n || is_twice url 161 more) cut
      (record { lease_time = after time 51 more; message_type = Some content; mud_url = after url 161 more })) (counted 53)
  at_kind time (Some earlier) url = rw (exceeds 53, or-true (is_twice time 51 more)) refl

  at_url : (time kind url : Option (List ℕ)) → walk (record { lease_time = time; message_type = kind; mud_url = url }) (record { code = 161; content = content } ∷ more) cut
      ≡ answered time kind url (record { code = 161; content = content } ∷ more) cut
  unfolding with_content
  at_url time kind None =
      later time kind (Some content)
      ∙ ap (λ n. answer (is_twice time 51 more || is_twice kind 53 more || ltb 1 n) cut
      (record { lease_time = after time 51 more; message_type = after kind 53 more; mud_url = Some content })) (counted 161)
  at_url time kind (Some earlier) = rw (exceeds 161, or-true (is_twice time 51 more || is_twice kind 53 more)) refl

  at_other : (code : ℕ) → eqb code 51 ≡ false → eqb code 53 ≡ false → eqb code 161 ≡ false → (time kind url : Option (List ℕ))
      → walk (record { lease_time = time; message_type = kind; mud_url = url }) (record { code = code; content = content } ∷ more) cut
      ≡ answered time kind url (record { code = code; content = content } ∷ more) cut
  unfolding with_content
  at_other code n51 n53 n161 time kind url = simp (n51, n53, n161) (later time kind url)

  at_code : (code : ℕ) (time kind url : Option (List ℕ)) → ((eqb code 51 ≡ true) × (code ≡ 51)) ⊎ ((eqb code 51 ≡ false) × (code ≢ 51))
      → ((eqb code 53 ≡ true) × (code ≡ 53)) ⊎ ((eqb code 53 ≡ false) × (code ≢ 53)) → ((eqb code 161 ≡ true) × (code ≡ 161)) ⊎ ((eqb code 161 ≡ false) × (code ≢ 161))
      → walk (record { lease_time = time; message_type = kind; mud_url = url }) (record { code = code; content = content } ∷ more) cut
      ≡ answered time kind url (record { code = code; content = content } ∷ more) cut
  at_code code time kind url (inl yes51) is53 is161 = rw yes51.1 (at_time time kind url)
  at_code code time kind url (inr no51) (inl yes53) is161 = rw yes53.1 (at_kind time kind url)
  at_code code time kind url (inr no51) (inr no53) (inl yes161) = rw yes161.1 (at_url time kind url)
  at_code code time kind url (inr no51) (inr no53) (inr no161) = at_other code no51.0 no53.0 no161.0 time kind url

not_twice : (before : Option (List ℕ)) → ltb 1 (count_of before + 0) ≡ false
not_twice None = refl
not_twice (Some content) = refl

or_none : (before : Option (List ℕ)) → or_else before None ≡ before
or_none None = refl
or_none (Some content) = refl

at_end-answer : (contents : Contents) (cut : Option ℕ) → at_end contents cut ≡ answer false cut contents
at_end-answer contents None = refl
at_end-answer contents (Some offset) = refl

walk_all : (options : List DhcpOption) (cut : Option ℕ) → IsAnswered options cut
walk_all [] cut time kind url = simp (not_twice, or_none) (at_end-answer (record { lease_time = time; message_type = kind; mud_url = url }) cut)
walk_all (option ∷ more) cut time kind url =
    at_code more cut (walk_all more cut) option.content option.code time kind url (eqb_tells option.code 51) (eqb_tells option.code 53) (eqb_tells option.code 161)

pub walked_all : (l : Listing DhcpOption) → walked nothing_yet l ≡ unless_fault (option_fault l) (Ok (contents_of l.whole))
unfolding walked option_fault contents_of
walked_all l = walk_all l.whole l.cut None None None ∙ simp zero-add

pub walked_end : (contents : Contents) → walked contents no_more ≡ Ok contents
unfolding walked
walked_end contents = refl

pub walked_cut : (contents : Contents) (offset : ℕ) → walked contents (cut_at offset) ≡ Err (faults.Cut offset)
unfolding walked
walked_cut contents offset = refl

-- one more option, at the front of the listing
pub walked_option : (contents next : Contents) (option : DhcpOption) (later l : Listing DhcpOption) → l ≡ with_first option later
    → Ok next ≡ with_content contents option.code option.content → walked next later ≡ walked contents l
unfolding walked
walked_option contents next option later l first is =
    ap (λ r. then_contents r (λ c. walk c later.whole later.cut)) is ∙ sym (ap (walked contents) first)

-- an option that is there a second time
pub walked_fault : (contents : Contents) (fault : HearFault) (option : DhcpOption) (later l : Listing DhcpOption) → l ≡ with_first option later
    → Err fault ≡ with_content contents option.code option.content → Err fault ≡ walked contents l
unfolding walked
walked_fault contents fault option later l first is =
    ap (λ r. then_contents r (λ c. walk c later.whole later.cut)) is ∙ sym (ap (walked contents) first)
