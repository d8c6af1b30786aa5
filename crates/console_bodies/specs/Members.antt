-- The names of the members of bodies.
use Rattle.std.specs.Prelude.{ℕ, List, codes}
use Rattle.console_bodies.specs.declared.member.Member.{Member}
use Rattle.console_bodies.specs.declared.member.Member.TheVariants.{Address, Class, Mac, MyControllerOf, Name, Prefixes, Seconds, Sha256, Ttl, Url, Verdict}

unfoldable pub name_of : Member → List ℕ
name_of Address = codes "address"
name_of Class = codes "class"
name_of Mac = codes "mac"
name_of MyControllerOf = codes "my-controller-of"
name_of Name = codes "name"
name_of Prefixes = codes "prefixes"
name_of Seconds = codes "seconds"
name_of Sha256 = codes "sha256"
name_of Ttl = codes "ttl"
name_of Url = codes "url"
name_of Verdict = codes "verdict"
