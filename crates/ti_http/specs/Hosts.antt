-- Which hosts are served, and which pages may ask.
use Rattle.std.specs.Prelude.{ℕ, Bool, true, not, ◌&&◌, ◌||◌, List, [], ◌∷◌, length, take, drop, codes, decimal, bytes_eq, ◌==◌, nat_le}
use Rattle.std.specs.List.{list_all, list_any}
use Rattle.http1.specs.Text.{eq_ignore_case}
use Rattle.http1.specs.Fields.{Header, is_named}
use Rattle.ti_http.specs.declared.hosts.Hosts.{Hosts}
use Rattle.ti_http.specs.declared.hosts.Hosts.TheVariants as hosts

-- nothing, or a colon and these digits
abbrev pub is_port : List ℕ → List ℕ → Bool
is_port [] digits = true
is_port (c ∷ port) digits = (c == 58) && bytes_eq port digits

-- the name in any case, alone or with the port
abbrev pub is_host_named : List ℕ → List ℕ → List ℕ → Bool
is_host_named value name digits =
    (nat_le (length name) (length value) && eq_ignore_case (take (length name) value) name) && is_port (drop (length name) value) digits

abbrev pub is_served : Hosts → List ℕ → Bool
is_served hosts.Any value = true
is_served (hosts.Local port) value =
    (is_host_named value (codes "localhost") (decimal port) || is_host_named value (codes "127.0.0.1") (decimal port)) || is_host_named value (codes "[::1]") (decimal port)

-- the field is no `Host`, or one that is served
abbrev pub may_pass : Hosts → Header → Bool
may_pass allowed field = not (is_named (codes "host") field) || is_served allowed field.1

-- each `Host` among the fields is served
abbrev pub are_served : Hosts → List Header → Bool
are_served allowed fields = list_all (may_pass allowed) fields

-- the field says that a page of another site asks (Fetch Metadata)
abbrev pub is_foreign : Header → Bool
is_foreign field = is_named (codes "sec-fetch-site") field && eq_ignore_case field.1 (codes "cross-site")

abbrev pub crosses_sites : List Header → Bool
crosses_sites fields = list_any is_foreign fields
