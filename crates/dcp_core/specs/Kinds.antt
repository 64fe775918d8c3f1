-- The kinds of blocks: Option and Suboption (IEC 61158-6-10, 4.3.1.4.1).
use Rattle.std.specs.Prelude.{◌==◌, ◌&&◌, ◌||◌, ℕ, Bool, if◌then◌else◌}
use Rattle.pn_values.specs.declared.set_item.BlockError.{BlockError}
use Rattle.pn_values.specs.declared.set_item.BlockError.TheVariants as error
use Rattle.dcp_core.specs.declared.kind.Kind.{Kind}
use Rattle.dcp_core.specs.declared.kind.Kind.TheVariants.{MacAddress, IpSuite, StationType, NameOfStation, DeviceId, DeviceRole, DeviceOptions, AliasName, DeviceInstance, Signal, Response, FactoryReset, ResetToFactory, All, Other}

-- Option of a kind
abbrev pub option_of : Kind → ℕ
option_of MacAddress = 1
option_of IpSuite = 1
option_of StationType = 2
option_of NameOfStation = 2
option_of DeviceId = 2
option_of DeviceRole = 2
option_of DeviceOptions = 2
option_of AliasName = 2
option_of DeviceInstance = 2
option_of Signal = 5
option_of Response = 5
option_of FactoryReset = 5
option_of ResetToFactory = 5
option_of All = 255
option_of (Other option suboption) = option

-- Suboption of a kind
abbrev pub suboption_of : Kind → ℕ
suboption_of MacAddress = 1
suboption_of IpSuite = 2
suboption_of StationType = 1
suboption_of NameOfStation = 2
suboption_of DeviceId = 3
suboption_of DeviceRole = 4
suboption_of DeviceOptions = 5
suboption_of AliasName = 6
suboption_of DeviceInstance = 7
suboption_of Signal = 3
suboption_of Response = 4
suboption_of FactoryReset = 5
suboption_of ResetToFactory = 6
suboption_of All = 255
suboption_of (Other option suboption) = suboption

-- the kind of an option and suboption
abbrev pub kind_of : ℕ → ℕ → Kind
kind_of option suboption =
    if option == 255 && suboption == 255 then All
    else (if option == 1 then kind_of_1 suboption
    else (if option == 2 then kind_of_2 suboption
    else (if option == 5 then kind_of_5 suboption else Other option suboption)))
  where
    kind_of_1 : ℕ → Kind
    kind_of_1 s = if s == 1 then MacAddress else (if s == 2 then IpSuite else Other 1 s)

    kind_of_2 : ℕ → Kind
    kind_of_2 s = if s == 1 then StationType else (if s == 2 then NameOfStation else (if s == 3 then DeviceId else (if s == 4 then DeviceRole
        else (if s == 5 then DeviceOptions else (if s == 6 then AliasName else (if s == 7 then DeviceInstance else Other 2 s))))))

    kind_of_5 : ℕ → Kind
    kind_of_5 s = if s == 3 then Signal else (if s == 4 then Response else (if s == 5 then FactoryReset else (if s == 6 then ResetToFactory else Other 5 s)))

-- whether the option is one that a device has: 1 IP, 2 device properties, 5 control
abbrev pub is_known_option : Kind → Bool
is_known_option kind = option_of kind == 1 || option_of kind == 2 || option_of kind == 5

-- the error if a kind cannot be read or set: the suboption if the option is known, else the option
abbrev pub blame : Kind → BlockError
blame kind = if is_known_option kind then error.Suboption else error.Option

-- whether two kinds have the same option and suboption
abbrev pub is_same : Kind → Kind → Bool
is_same one other = option_of one == option_of other && suboption_of one == suboption_of other
