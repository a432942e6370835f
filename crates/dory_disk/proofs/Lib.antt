mod Remembering
