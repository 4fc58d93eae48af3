-- What the arguments ask for.
use Rattle.std.specs.Prelude.{ℕ, ◌+◌, ◌*◌, ◌-◌, ◌&&◌, ◌||◌, Bool, true, false, nat_lt, List, [], ◌∷◌, codes, Option, Some, None, is_some, if◌then◌else◌}
use Rattle.std.specs.Str.{bytes_eq}
use Rattle.tiprof.specs.declared.options.Options.{Options}
use Rattle.tiprof.specs.declared.options.Way.TheVariants.{Handshake, Standing}

-- the options if no argument says otherwise
abbrev pub usual : Options
usual = record { seconds = None; samples = None; jobs = None; interval = 1000; threads = 4; churn = None; way = Handshake; by_thread = false; svg = false }

-- it ends after a time, a number of samples, or a number of rounds
abbrev pub is_bounded : Options → Bool
is_bounded o = is_some o.seconds || is_some o.samples || is_some o.jobs

abbrev pub is_digit : ℕ → Bool
is_digit c = nat_lt 47 c && nat_lt c 58

-- the number whose decimal digits are those of n and then these, if it is below 2^32
abbrev pub digits_behind : ℕ → List ℕ → Option ℕ
digits_behind n [] = Some n
digits_behind n (c ∷ cs) = if is_digit c && nat_lt (n * 10 + (c - 48)) 4294967296 then digits_behind (n * 10 + (c - 48)) cs else None

-- the number of a word that has nothing but digits
abbrev pub number_of : List ℕ → Option ℕ
number_of [] = None
number_of (c ∷ cs) = digits_behind 0 (c ∷ cs)

-- a number within its bounds
abbrev pub within : ℕ → ℕ → Option ℕ → Option ℕ
within least most None = None
within least most (Some n) = if nat_lt n least then None else (if nat_lt most n then None else Some n)

abbrev pub or_none : (ℕ → Options) → Option ℕ → Option Options
or_none f None = None
or_none f (Some n) = Some (f n)

-- the options with one more set that has no value
abbrev pub with_flag : Options → List ℕ → Option Options
with_flag o word =
    if bytes_eq word (codes "--handshake") then Some (record o { way = Handshake })
    else (if bytes_eq word (codes "--standing") then Some (record o { way = Standing })
    else (if bytes_eq word (codes "--by-thread") then Some (record o { by_thread = true })
    else (if bytes_eq word (codes "--svg") then Some (record o { svg = true })
    else None)))

-- the options with one more set, and its value
abbrev pub with_option : Options → List ℕ → List ℕ → Option Options
with_option o word value =
    if bytes_eq word (codes "--seconds") then or_none (λ n. record o { seconds = Some n }) (within 1 86400 (number_of value))
    else (if bytes_eq word (codes "--samples") then or_none (λ n. record o { samples = Some n }) (within 0 4294967295 (number_of value))
    else (if bytes_eq word (codes "--jobs") then or_none (λ n. record o { jobs = Some n }) (within 1 4294967295 (number_of value))
    else (if bytes_eq word (codes "--interval") then or_none (λ n. record o { interval = n }) (within 1 60000000 (number_of value))
    else (if bytes_eq word (codes "--threads") then or_none (λ n. record o { threads = n }) (within 1 64 (number_of value))
    else (if bytes_eq word (codes "--churn") then or_none (λ n. record o { churn = Some n }) (within 1 10000 (number_of value))
    else None)))))

-- the options with all of these words set
abbrev pub with_words : Option Options → List (List ℕ) → Option Options
with_words None words = None
with_words (Some o) [] = Some o
with_words (Some o) (word ∷ []) = with_flag o word
with_words (Some o) (word ∷ value ∷ words) =
    if is_some (with_flag o word) then with_words (with_flag o word) (value ∷ words) else with_words (with_option o word value) words

abbrev pub options_of : List (List ℕ) → Option Options
options_of words = with_words (Some usual) words
