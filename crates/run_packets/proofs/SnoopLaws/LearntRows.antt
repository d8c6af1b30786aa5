-- What is learnt of addresses, one after the other.
use Rattle.std.proofs.Common.{◌≡◌, ◌≢◌, ℕ, zero, suc, ◌+◌, ◌<◌, ◌≤◌, Bool, true, false, ◌||◌, if◌then◌else◌, List, [], ◌∷◌, ◌++◌, length, take, drop, get_or, refl, sym, subst, ap, ap₂, ◌∙◌, arith, append_assoc, append-nil, lt-ltb}
use Rattle.std.specs.Prelude.{nat_lt}
use Rattle.std.proofs.lemmas.List.{length-append, take_more, take-append-drop, take-append-le, length-take}
use Rattle.std.proofs.Math.Seq.{take-append-add}
use Rattle.mud_base.specs.declared.addr.Addr.{Addr}
use Rattle.mud_world.specs.Causes.{Counts}
use Rattle.mud_world.proofs.Doors.{rose_by_one}
use Rattle.desk_model.specs.declared.command.Command.{Command}
use Rattle.desk_model.specs.declared.command.Command.TheVariants.{Observe}
use Rattle.desk_model.specs.declared.reply.Reply.{Reply}
use Rattle.desk_model.specs.declared.reply.Reply.TheVariants.{Memory}
use Rattle.desk_model.specs.Sessions.{Session, AllowedReply, Runs, is_of_keeper}
use Rattle.dns_snoop.specs.declared.fault.DnsFault.TheVariants as dns
use Rattle.run_packets.specs.Snoop.Entries.{Heard, calls_of, heard_lines, NoneOfMemory, failures}
use Rattle.run_packets.specs.Snoop.Learnt.{Learns, LearnsFirst, names_of}
use Rattle.run_packets.specs.Snoop.Lines.{name_line}
use Rattle.run_packets.proofs.Parts.{observations, name_lines}

abbrev pub Calls : Type 0
Calls = List (ℕ × Command)

abbrev pub Rows : Type 0
Rows = List (Addr × ℕ)

-- ---- Runs one after the other

runs_length : (a : Session) (calls : Calls) (replies : List Reply) (b : Session) → Runs a calls replies b → length replies ≡ length calls
runs_length a [] [] b run = refl
runs_length a (call ∷ calls) (reply ∷ replies) b run = ap suc (runs_length run.0 calls replies b run.2)
runs_length a [] (reply ∷ replies) b run = absurd run
runs_length a (call ∷ calls) [] b run = absurd run

runs_append : (a : Session) (xs : Calls) (rs : List Reply) (b : Session) → Runs a xs rs b → (ys : Calls) (ss : List Reply) (c : Session) → Runs b ys ss c → Runs a (xs ++ ys) (rs ++ ss) c
runs_append a [] [] b run ys ss c more = subst (λ (s : Session). Runs s ys ss c) run more
runs_append a (x ∷ xs) (r ∷ rs) b run ys ss c more = (run.0, run.1, runs_append run.0 xs rs b run.2 ys ss c more)
runs_append a [] (r ∷ rs) b run ys ss c more = absurd run
runs_append a (x ∷ xs) [] b run ys ss c more = absurd run

observations_append : (m : ℕ) (n : List ℕ) (xs ys : Rows) → observations m n (xs ++ ys) ≡ observations m n xs ++ observations m n ys
observations_append m n [] ys = refl
observations_append m n (x ∷ xs) ys = ap (λ (more : Calls). (m, Observe n x.0 x.1) ∷ more) (observations_append m n xs ys)

observations_length : (m : ℕ) (n : List ℕ) (xs : Rows) → length (observations m n xs) ≡ length xs
observations_length m n [] = refl
observations_length m n (x ∷ xs) = ap suc (observations_length m n xs)

lines_append : (n : List ℕ) (xs : Rows) (rs : List Reply) → length rs ≡ length xs → (ys : Rows) (ss : List Reply) → name_lines n (xs ++ ys) (rs ++ ss) ≡ name_lines n xs rs ++ name_lines n ys ss
lines_append n [] [] same ys ss = refl
lines_append n [] (r ∷ rs) same ys ss = absurd (omega (arith, same))
lines_append n (x ∷ xs) [] same ys ss = absurd (omega (arith, same))
lines_append n (x ∷ xs) (r ∷ rs) same ys ss =
    ap (λ (more : List ℕ). name_line n x r ++ more) (lines_append n xs rs (omega (arith, same)) ys ss)
    ∙ sym (append_assoc (name_line n x r) (name_lines n xs rs) (name_lines n ys ss))

told_append : (rs ss : List Reply) → NoneOfMemory rs → NoneOfMemory ss → NoneOfMemory (rs ++ ss)
told_append [] ss p q = q
told_append (r ∷ rs) ss p q = (p.0, told_append rs ss p.1 q)

failures_append : (rs ss : List Reply) → failures (rs ++ ss) ≡ failures rs + failures ss
failures_append [] ss = omega arith
failures_append (r ∷ rs) ss = omega (arith, failures_append rs ss)

-- ---- Nothing, and one address

pub first_none : (m : ℕ) (heard : Heard) (a b : Session) (f g : ℕ) → b ≡ a → g ≡ f → LearnsFirst m heard a b f g
first_none m heard a b f g still steady = record { replies = []; run = still; told = tt; paid = omega (arith, steady) }

pub learns_none : (m : ℕ) (heard : Heard) (a : Session) (lines added : List ℕ) (f g : ℕ) → g ≡ f → calls_of m heard ≡ [] → added ≡ lines ++ heard_lines heard [] → Learns m heard a a lines added f g false
learns_none m heard a lines added f g steady none is = record { replies = []; run = subst (λ (calls : Calls). Runs a calls [] a) (sym none) refl; told = tt; added = is; failed_is = refl; paid = omega (arith, steady) }

failed_one : (failed : Bool) → failed ≡ nat_lt 0 ((if failed then 1 else 0) + 0)
failed_one true = refl
failed_one false = refl

module _ (m : ℕ) (n : List ℕ) (row : Addr × ℕ) (reply : Reply) (a b : Session) (f g : ℕ) (may : AllowedReply a m (Observe n row.0 row.1) reply b) (told : reply ≢ Memory) (counts : Counts (is_of_keeper reply) f g) where
  pub learns_one : (old new : List ℕ) (failed : Bool) → new ≡ old ++ name_line n row reply → failed ≡ is_of_keeper reply → Learns m (names_of n (row ∷ [])) a b old new f g failed
  learns_one old new failed added is = record {
    replies = reply ∷ [];
    run = (b, may, refl);
    told = (told, tt);
    added = added ∙ ap (λ (line : List ℕ). old ++ line) (sym (append-nil (name_line n row reply)));
    failed_is = is ∙ failed_one (is_of_keeper reply);
    paid = rose_by_one (is_of_keeper reply) f g counts;
  }

  pub first_one : LearnsFirst m (names_of n (row ∷ [])) a b f g
  first_one = record { replies = reply ∷ []; run = (b, may, refl); told = (told, tt); paid = rose_by_one (is_of_keeper reply) f g counts }

-- ---- Addresses one after the other

pub either_count : (j k : ℕ) → (nat_lt 0 j || nat_lt 0 k) ≡ nat_lt 0 (j + k)
either_count zero k = ap (λ (n : ℕ). nat_lt 0 n) (unit_first k)
  where
    unit_first : (k : ℕ) → k ≡ 0 + k
    unit_first k = omega arith
either_count (suc j) k = rw (lt-ltb 0 (suc j) (omega arith), lt-ltb 0 (suc j + k) (omega arith)) refl

module _ (m : ℕ) (n : List ℕ) (xs : Rows) (a b : Session) (old mid : List ℕ) (f g : ℕ) (x : Bool) (first : Learns m (names_of n xs) a b old mid f g x) where
  same_length : length first.replies ≡ length xs
  same_length = runs_length a (observations m n xs) first.replies b first.run ∙ observations_length m n xs

  pub learns_further : (ys : Rows) (c : Session) (new : List ℕ) (h : ℕ) (y z : Bool) → Learns m (names_of n ys) b c mid new g h y → z ≡ (x || y) → Learns m (names_of n (xs ++ ys)) a c old new f h z
  learns_further ys c new h y z second is = record {
    replies = first.replies ++ second.replies;
    run = subst (λ (calls : Calls). Runs a calls (first.replies ++ second.replies) c) (sym (observations_append m n xs ys))
        (runs_append a (observations m n xs) first.replies b first.run (observations m n ys) second.replies c second.run);
    told = told_append first.replies second.replies first.told second.told;
    added =
        second.added ∙ ap (λ (front : List ℕ). front ++ name_lines n ys second.replies) first.added
        ∙ append_assoc old (name_lines n xs first.replies) (name_lines n ys second.replies)
        ∙ ap (λ (lines : List ℕ). old ++ lines) (sym (lines_append n xs first.replies same_length ys second.replies));
    failed_is =
        is ∙ ap₂ (λ (p q : Bool). p || q) first.failed_is second.failed_is
        ∙ either_count (failures first.replies) (failures second.replies)
        ∙ ap (λ (k : ℕ). nat_lt 0 k) (sym (failures_append first.replies second.replies));
    paid = omega (arith, first.paid, second.paid, failures_append first.replies second.replies);
  }

  taken : (ys rest : Rows) (k : ℕ) → k ≤ length ys → take (length first.replies + k) (observations m n (xs ++ (ys ++ rest))) ≡ observations m n xs ++ take k (observations m n ys)
  taken ys rest k few =
      let length_is : length first.replies ≡ length (observations m n xs) = runs_length a (observations m n xs) first.replies b first.run in
      ap₂ (λ (j : ℕ) (calls : Calls). take (j + k) calls) length_is (observations_append m n xs (ys ++ rest))
      ∙ take-append-add (observations m n xs) (observations m n (ys ++ rest)) k
      ∙ ap (λ (calls : Calls). observations m n xs ++ take k calls) (observations_append m n ys rest)
      ∙ ap (λ (calls : Calls). observations m n xs ++ calls) (take-append-le k (observations m n ys) (observations m n rest) (omega (arith, few, observations_length m n ys)))

  few_replies : (ys : Rows) (replies : List Reply) (c : Session) → Runs b (take (length replies) (observations m n ys)) replies c → length replies ≤ length ys
  few_replies ys replies c run =
      omega (arith, runs_length b (take (length replies) (observations m n ys)) replies c run, length-take (length replies) (observations m n ys), observations_length m n ys)

  pub first_further : (ys rest all : Rows) (c : Session) (h : ℕ) → LearnsFirst m (names_of n ys) b c g h → all ≡ xs ++ (ys ++ rest) → LearnsFirst m (names_of n all) a c f h
  first_further ys rest all c h second is = record {
    replies = first.replies ++ second.replies;
    run = subst (λ (calls : Calls). Runs a calls (first.replies ++ second.replies) c)
        (sym (ap₂ (λ (k : ℕ) (rows : Rows). take k (observations m n rows)) (length-append first.replies second.replies) is
        ∙ taken ys rest (length second.replies) (few_replies ys second.replies c second.run)))
        (runs_append a (observations m n xs) first.replies b first.run (take (length second.replies) (observations m n ys)) second.replies c second.run);
    told = told_append first.replies second.replies first.told second.told;
    paid = omega (arith, first.paid, second.paid, failures_append first.replies second.replies);
  }

-- ---- A step of a loop over the addresses

module _ (m : ℕ) (n name : List ℕ) (rows : Rows) (i : ℕ) (row other : Addr × ℕ) (within : i < length rows) (is : row ≡ get_or rows i other) (named : name ≡ n) where
  next_rows : take (i + 1) rows ≡ take i rows ++ row ∷ []
  next_rows = take_more rows i other within ∙ ap (λ (r : Addr × ℕ). take i rows ++ r ∷ []) (sym is)

  pub learns_at : (a b c : Session) (old mid new : List ℕ) (f g h : ℕ) (x y z : Bool) → Learns m (names_of n (take i rows)) a b old mid f g x → Learns m (names_of name (row ∷ [])) b c mid new g h y
      → z ≡ (x || y) → Learns m (names_of n (take (i + 1) rows)) a c old new f h z
  learns_at a b c old mid new f g h x y z first second either =
      subst (λ (rs : Rows). Learns m (names_of n rs) a c old new f h z) (sym next_rows)
      (learns_further m n (take i rows) a b old mid f g x first (row ∷ []) c new h y z
      (subst (λ (t : List ℕ). Learns m (names_of t (row ∷ [])) b c mid new g h y) named second) either)

  pub first_at : (a b c : Session) (old mid : List ℕ) (f g h : ℕ) (x : Bool) → Learns m (names_of n (take i rows)) a b old mid f g x → LearnsFirst m (names_of name (row ∷ [])) b c g h
      → LearnsFirst m (names_of n rows) a c f h
  first_at a b c old mid f g h x first second =
      first_further m n (take i rows) a b old mid f g x first (row ∷ []) (drop (i + 1) rows) rows c h
      (subst (λ (t : List ℕ). LearnsFirst m (names_of t (row ∷ [])) b c g h) named second)
      (sym (take-append-drop (i + 1) rows) ∙ ap (λ (front : Rows). front ++ drop (i + 1) rows) next_rows ∙ append_assoc (take i rows) (row ∷ []) (drop (i + 1) rows))

-- ---- A message

-- ---- The keeper's count

pub counts_either : (x y z : Bool) → z ≡ (x || y) → (a b c : ℕ) → Counts x a b → Counts y b c → Counts z a c
counts_either true y z is a b c p q = record { later = omega (arith, p.later, q.later); rose = λ t. omega (arith, p.rose refl, q.later); steady = λ e. absurd (cc (is, e)) }
counts_either false y z is a b c p q = subst (λ (w : Bool). Counts w a c) (sym is)
    (record { later = omega (arith, p.later, q.later); rose = λ t. omega (arith, p.later, q.rose t); steady = λ e. q.steady e ∙ p.steady refl })
