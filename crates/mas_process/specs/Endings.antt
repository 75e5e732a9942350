-- How the program ends where it has no devices.
use Rattle.std.specs.Prelude.{ℕ, List, codes}
use Rattle.mas_types.specs.Statuses.{status_code}
use Rattle.plant_files.specs.declared.hold.FolderError.{FolderError}
use Rattle.plant_files.specs.declared.hold.FolderError.TheVariants as folder
use Rattle.mas_process.specs.declared.ending.Ending.{Ending}
use Rattle.mas_process.specs.declared.ending.Ending.TheVariants as ending

-- the exit code: up to 8 those of the top call, and above them those of a run that has no devices
abbrev pub ending_code : Ending → ℕ
ending_code (ending.Top status) = status_code status
ending_code (ending.Folder folder.NoMemory) = 8
ending_code (ending.Folder folder.InUse) = 9
ending_code (ending.Folder folder.NotMade) = 10
ending_code (ending.Folder folder.NotFolder) = 10
ending_code (ending.Folder folder.NotOpened) = 10
ending_code (ending.Folder folder.NotLocked) = 10
ending_code (ending.Folder folder.OneFile) = 10
ending_code ending.NoNullDevice = 11

-- the line of a folder that isn't opened
abbrev pub folder_text : FolderError → List ℕ
folder_text folder.InUse = codes "MAS FOLDER IN USE"
folder_text folder.NotMade = codes "MAS FOLDER NOT MADE"
folder_text folder.NotFolder = codes "MAS FOLDER NOT A FOLDER"
folder_text folder.NotOpened = codes "MAS FOLDER NOT OPENED"
folder_text folder.NotLocked = codes "MAS FOLDER NOT LOCKED"
folder_text folder.OneFile = codes "MAS FOLDER DEVICES ARE ONE FILE"
folder_text folder.NoMemory = codes "MAS NO MEMORY"
