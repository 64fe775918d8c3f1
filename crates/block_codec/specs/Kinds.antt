-- BlockType (IEC 61158-6-10, 5.2.1.2).
use Rattle.std.specs.Prelude.{◌==◌, ℕ, Option, Some, None, if◌then◌else◌}
use Rattle.block_codec.specs.declared.block_type.BlockType.{BlockType}
use Rattle.block_codec.specs.declared.block_type.BlockType.TheVariants as kind

-- The number of a type.
unfoldable pub number_of : BlockType → ℕ
number_of kind.ArBlockReq = 0x0101
number_of kind.ArBlockRes = 0x8101
number_of kind.IocrBlockReq = 0x0102
number_of kind.IocrBlockRes = 0x8102
number_of kind.AlarmCrBlockReq = 0x0103
number_of kind.AlarmCrBlockRes = 0x8103
number_of kind.ExpectedSubmoduleBlockReq = 0x0104
number_of kind.ModuleDiffBlock = 0x8104
number_of kind.PrmEnd = 0x0110
number_of kind.PrmEndRes = 0x8110
number_of kind.ApplicationReady = 0x0112
number_of kind.ApplicationReadyRes = 0x8112
number_of kind.Release = 0x0114
number_of kind.ReleaseRes = 0x8114
number_of kind.IodReadReq = 0x0009
number_of kind.IodReadRes = 0x8009
number_of kind.IodWriteReq = 0x0008
number_of kind.IodWriteRes = 0x8008
number_of kind.Im0 = 0x0020
number_of kind.Im1 = 0x0021
number_of kind.Im2 = 0x0022
number_of kind.Im3 = 0x0023
number_of kind.Im4 = 0x0024
number_of kind.ImFilterDataSubmodule = 0x0030
number_of kind.ImFilterDataDevice = 0x0032
number_of kind.AlarmNotification = 0x0001
number_of kind.AlarmAck = 0x8001

-- The type with a number, if there is one.
unfoldable pub type_of : ℕ → Option BlockType
type_of number =
    if number == 0x0101 then Some kind.ArBlockReq
    else (if number == 0x8101 then Some kind.ArBlockRes
    else (if number == 0x0102 then Some kind.IocrBlockReq
    else (if number == 0x8102 then Some kind.IocrBlockRes
    else (if number == 0x0103 then Some kind.AlarmCrBlockReq
    else (if number == 0x8103 then Some kind.AlarmCrBlockRes
    else (if number == 0x0104 then Some kind.ExpectedSubmoduleBlockReq
    else (if number == 0x8104 then Some kind.ModuleDiffBlock
    else (if number == 0x0110 then Some kind.PrmEnd
    else (if number == 0x8110 then Some kind.PrmEndRes
    else (if number == 0x0112 then Some kind.ApplicationReady
    else (if number == 0x8112 then Some kind.ApplicationReadyRes
    else (if number == 0x0114 then Some kind.Release
    else (if number == 0x8114 then Some kind.ReleaseRes
    else (if number == 0x0009 then Some kind.IodReadReq
    else (if number == 0x8009 then Some kind.IodReadRes
    else (if number == 0x0008 then Some kind.IodWriteReq
    else (if number == 0x8008 then Some kind.IodWriteRes
    else (if number == 0x0020 then Some kind.Im0
    else (if number == 0x0021 then Some kind.Im1
    else (if number == 0x0022 then Some kind.Im2
    else (if number == 0x0023 then Some kind.Im3
    else (if number == 0x0024 then Some kind.Im4
    else (if number == 0x0030 then Some kind.ImFilterDataSubmodule
    else (if number == 0x0032 then Some kind.ImFilterDataDevice
    else (if number == 0x0001 then Some kind.AlarmNotification
    else (if number == 0x8001 then Some kind.AlarmAck
    else None))))))))))))))))))))))))))
