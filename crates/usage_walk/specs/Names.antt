-- The numbers and names of the rules of usage files.
use Rattle.std.specs.Prelude.{ℕ, List, codes}
use Rattle.usage_walk.specs.declared.fault.Rule.{Rule}
use Rattle.usage_walk.specs.declared.fault.Rule.TheVariants.{TooLong, Json, Missing, WrongKind, Version, Url, Update, Validity, NoSuchAcl, AclType, UnknownMatch, TwoLayers, PortRange, NameSide, DirectionNotTcp, Action, EntriesFull, NameText, RepeatedName, Family, PrefixText, Range, DirectionText, Operator, FlagText}

unfoldable pub number_of : Rule → ℕ
number_of TooLong = 1
number_of Json = 2
number_of Missing = 3
number_of WrongKind = 4
number_of Version = 5
number_of Url = 6
number_of Update = 7
number_of Validity = 8
number_of NoSuchAcl = 9
number_of AclType = 10
number_of UnknownMatch = 11
number_of TwoLayers = 12
number_of PortRange = 13
number_of NameSide = 14
number_of DirectionNotTcp = 15
number_of Action = 16
number_of EntriesFull = 17
number_of NameText = 18
number_of RepeatedName = 19
number_of Family = 20
number_of PrefixText = 21
number_of Range = 22
number_of DirectionText = 23
number_of Operator = 24
number_of FlagText = 25

unfoldable pub name_of : Rule → List ℕ
name_of TooLong = codes "TooLong"
name_of Json = codes "Json"
name_of Missing = codes "Missing"
name_of WrongKind = codes "WrongKind"
name_of Version = codes "Version"
name_of Url = codes "Url"
name_of Update = codes "Update"
name_of Validity = codes "Validity"
name_of NoSuchAcl = codes "NoSuchAcl"
name_of AclType = codes "AclType"
name_of UnknownMatch = codes "UnknownMatch"
name_of TwoLayers = codes "TwoLayers"
name_of PortRange = codes "PortRange"
name_of NameSide = codes "NameSide"
name_of DirectionNotTcp = codes "DirectionNotTcp"
name_of Action = codes "Action"
name_of EntriesFull = codes "EntriesFull"
name_of NameText = codes "NameText"
name_of RepeatedName = codes "RepeatedName"
name_of Family = codes "Family"
name_of PrefixText = codes "PrefixText"
name_of Range = codes "Range"
name_of DirectionText = codes "DirectionText"
name_of Operator = codes "Operator"
name_of FlagText = codes "FlagText"
