-- The records of identification and maintenance that are writable.
use Rattle.std.specs.Prelude.{◌&&◌, ℕ, Bool}
use Rattle.im_records.specs.Indices.{is_text, record_with}
use Rattle.im_records.specs.Records.{is_device}

-- I&M1 to I&M4 of the submodule that represents the device.
abbrev pub is_writable : ℕ → ℕ → ℕ → Bool
is_writable index slot subslot = is_text (record_with index) && is_device slot subslot
